-- What the symbols of a rule stand for, and what the terms of an effect are worth: by the value of terms, with the
-- symbols' values, and with the memory and the last result of a tree state.
use Rattle.std.specs.Prelude.{◌≡◌, ℕ, ◌+◌, ◌-◌, ◌<◌, ◌≤◌, Bool, true, Option, Some, None, IsSome, unwrap_or, slice_get}
use Rattle.std.specs.Prelude.{slice_index, length}
use Rattle.gg_base.specs.declared.limits.TheConstants.{AREA_START, NEED_LIMIT}
use Rattle.gg_base.specs.declared.size.Size.{Size}
use Rattle.gg_base.specs.declared.size.Size.TheVariants.{Long}
use Rattle.gg_base.specs.Arithmetic.{add32}
use Rattle.tree_core.specs.declared.token.Tok.{Tok}
use Rattle.tree_core.specs.declared.token.Tok.TheVariants as tok
use Rattle.tree_core.specs.declared.tree.Att.{Att}
use Rattle.tree_core.specs.declared.tree.Att.TheVariants as att
use Rattle.tree_core.specs.declared.program.Object.{Object}
use Rattle.tree_core.specs.declared.program.TreeProgram.{TreeProgram}
use Rattle.tree_meaning.specs.State.{State, Extent}
use Rattle.tree_meaning.specs.declared.value.Meaning.TheVariants as meaning
use Rattle.tree_meaning.specs.declared.value.Meaning.{Meaning as Place}
use Rattle.sel_terms_meaning.specs.term_core.specs.Shape.{Shape}
use Rattle.sel_terms_meaning.specs.term_core.specs.Value as term
use Rattle.sel_terms_meaning.specs.term_core_accesses.specs.Accesses.{Safe}
use Rattle.sel_target.specs.declared.attr.Attr.{Attr}
use Rattle.sel_target.specs.declared.attr.Attr.TheVariants as attr
use Rattle.sel_target.specs.Meaning.{Meaning}

-- the numbers of a rule's symbols, as far as they have one, and a tree state
pub record View : Type 0 where
  pub symbol : ℕ → Option ℕ
  pub state : State

-- the same for terms: the data area lies from address `AREA_START` on
abbrev pub term_state : View → term.State
term_state v = record {
  symbol = λ i. unwrap_or (v.symbol i) 0;
  last_result = v.state.running.result;
  byte = λ a. slice_index v.state.area (a - AREA_START);
}

abbrev pub value : View → Shape → ℕ
value v t = term.value (term_state v) t

-- The symbols that a term names have numbers, and no access to memory that it makes breaks: every one, or all but those
-- whose address divides by zero, which are never made.
abbrev pub IsReadWhere : Bool → View → Shape → Type 0
IsReadWhere every v t = Safe every (λ i. IsSome (v.symbol i)) v.state.area (term_state v) t

abbrev pub IsRead : View → Shape → Type 0
IsRead v t = IsReadWhere true v t

abbrev pub address_of : Option Object → ℕ → Option ℕ
address_of None offset = None
address_of (Some o) offset = Some (add32 o.address offset)

-- the numbers of arguments in trees: from 1 to 255
abbrev pub IsArgument : ℕ → Type 0
IsArgument k = (1 ≤ k) × (k ≤ 255)

-- the place of a local's or an argument's token
abbrev pub slot_place : {O : Type 0} → (ℕ → O) → (ℕ → O) → Tok → ℕ → Option O
slot_place local argument tok.Loc k = Some (local k)
slot_place local argument tok.Arg k = Some (argument k)
slot_place local argument x k = None

module _ {O I S F : Type 0} (of : Meaning O I S F) where
  -- the operand of a token that is a place
  abbrev pub token_operand : Tok → Att → Option O
  token_operand x att.Nothing = None
  token_operand x (att.Number n) = None
  token_operand x (att.Object object offset) = None
  token_operand x (att.Slot k) = slot_place of.local of.argument x k
  token_operand x (att.Branch rel label) = None
  token_operand x (att.Label label) = None
  token_operand x (att.Callee function count) = None

  -- the operand of a symbol that is a place
  abbrev pub own_operand : Attr O → Option O
  own_operand (attr.Reg r) = None
  own_operand (attr.InSlot w) = None
  own_operand (attr.Value o) = None
  own_operand (attr.Place o) = Some o
  own_operand (attr.Con n) = None
  own_operand (attr.Ea o) = None
  own_operand (attr.Token l) = token_operand l.tok l.att
  own_operand attr.Nothing = None

  abbrev pub read_of : Option O → Size → S → Option ℕ
  read_of None size m = None
  read_of (Some o) size m = of.reads o size m

  abbrev pub token_worth : TreeProgram → Tok → Att → S → Option ℕ
  token_worth q x att.Nothing m = None
  token_worth q x (att.Number n) m = Some n
  token_worth q x (att.Object object offset) m = address_of (slice_get q.objects object) offset
  token_worth q x (att.Slot k) m = read_of (token_operand x (att.Slot k)) Long m
  token_worth q x (att.Branch rel label) m = None
  token_worth q x (att.Label label) m = None
  token_worth q x (att.Callee function count) m = None

  -- the number that an attribute stands for, of a place the one that stands there
  abbrev pub worth : TreeProgram → Size → Attr O → S → Option ℕ
  worth q size (attr.Reg r) m = of.reads (of.register r) size m
  worth q size (attr.InSlot w) m = of.reads (of.slot w) size m
  worth q size (attr.Value o) m = of.reads o size m
  worth q size (attr.Place o) m = of.reads o size m
  worth q size (attr.Con n) m = Some n
  worth q size (attr.Ea o) m = of.names o size m
  worth q size (attr.Token l) m = token_worth q l.tok l.att m
  worth q size attr.Nothing m = None

  -- An operand stands for a place of a size: a local's and an argument's are longwords and have their own operands.
  pub data PlaceIs (f : Extent) (t : State) (m : S) (size : Size) (o : O) : (g : Place) → Type 0 where
    local : (k : ℕ) → size ≡ Long → o ≡ of.local k → k < f.locals → k < NEED_LIMIT → PlaceIs f t m size o (meaning.Local k)
    argument : (k : ℕ) → size ≡ Long → o ≡ of.argument (k + 1) → k < length t.running.arguments → IsArgument (k + 1)
        → PlaceIs f t m size o (meaning.Argument (k + 1))
    memory : (a : ℕ) → of.names o size m ≡ Some a → PlaceIs f t m size o (meaning.Memory size a)
