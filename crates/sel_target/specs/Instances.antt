-- An instance of a rule: its holes, what they are worth, and the state in which its lines are run.
use Rattle.std.specs.Prelude.{◌≡◌, ℕ, zero, suc, ◌*◌, ◌^◌, ◌<◌, List, [], ◌∷◌, map, Option, Some, None, IsSome, Ok}
use Rattle.std.specs.Prelude.{true, false, Bool, slice_get}
use Rattle.std.specs.List.{AllByRecursion}
use Rattle.gg_base.specs.declared.limits.TheConstants.{NEED_LIMIT}
use Rattle.gg_base.specs.Sizes.{bytes_of}
use Rattle.tree_core.specs.declared.token.Tok.{Tok}
use Rattle.tree_core.specs.declared.token.Tok.TheVariants as tok
use Rattle.tree_core.specs.declared.tree.Att.{Att}
use Rattle.tree_core.specs.declared.tree.Att.TheVariants as att
use Rattle.tree_core.specs.declared.program.TreeProgram.{TreeProgram}
use Rattle.tree_core.specs.Attributes.{leaf_fits}
use Rattle.tree_core.specs.Valid.{IsValid}
use Rattle.tree_meaning.specs.State.{Extent}
use Rattle.md_reader_pieces.specs.declared.piece.Line.{Line}
use Rattle.sel_terms_meaning.specs.md_reader.specs.declared.types.Kind.{Kind}
use Rattle.sel_terms_meaning.specs.md_reader.specs.declared.types.Kind.TheVariants as kind
use Rattle.sel_terms_meaning.specs.md_reader.specs.declared.types.Class.{Class}
use Rattle.sel_terms_meaning.specs.md_reader.specs.declared.types.Sym.{Sym}
use Rattle.sel_terms_meaning.specs.md_reader.specs.declared.types.Sym.TheVariants as grammar_symbol
use Rattle.sel_terms_meaning.specs.md_reader.specs.declared.types.Give.{Give}
use Rattle.sel_terms_meaning.specs.md_reader.specs.declared.types.Give.TheVariants as give
use Rattle.sel_terms_meaning.specs.md_reader.specs.declared.types.Rule.{Rule}
use Rattle.sel_terms_meaning.specs.md_reader.specs.Patterns.{kind_at}
use Rattle.sel_terms_meaning.specs.md_reader.specs.Valid.{IsRule}
use Rattle.sel_terms_meaning.specs.sel_terms.specs.Effects.{EffectShape}
use Rattle.sel_terms_meaning.specs.sel_terms.specs.RuleFacts.{size_at}
use Rattle.sel_target.specs.declared.attr.Attr.{Attr}
use Rattle.sel_target.specs.declared.attr.Attr.TheVariants as attr
use Rattle.sel_target.specs.Meaning.{Meaning, Spot, RegAt, touches}
use Rattle.sel_target.specs.Values.{View, IsReadWhere, worth, own_operand, token_operand}
use Rattle.sel_target.specs.EffectTerms.{terms_of, DividesByNone, begins_with_save}
use Rattle.sel_target.specs.Restrictions.{AreRestricted}

-- the symbols are numbered from 1
abbrev pub hole : {X : Type 0} → List X → ℕ → Option X
hole hs zero = None
hole hs (suc i) = slice_get hs i

-- A local's number is that of a word. An argument's is from 1 to 255 by its leaf.
abbrev pub InFrame : Att → Type 0
InFrame (att.Slot k) = k < NEED_LIMIT
InFrame a = Unit {0}

-- A place may be without a value: it is perhaps only written. A local that was not written has the value that its word happens to hold.
abbrev pub TokenIsWhole : Tok → Att → Option ℕ → Type 0
TokenIsWhole tok.Zero a o = IsSome o
TokenIsWhole tok.One a o = IsSome o
TokenIsWhole tok.Two a o = IsSome o
TokenIsWhole tok.Four a o = IsSome o
TokenIsWhole tok.Eight a o = IsSome o
TokenIsWhole tok.Const a o = IsSome o
TokenIsWhole tok.Gaddr a o = IsSome o
TokenIsWhole tok.Loc a o = IsSome o
TokenIsWhole tok.Arg a o = IsSome o
TokenIsWhole x a o = Unit {0}

abbrev pub IsWhole : {O : Type 0} → Attr O → Option ℕ → Type 0
IsWhole (attr.Place p) o = Unit {0}
IsWhole (attr.Token l) o = TokenIsWhole l.tok l.att o
IsWhole attr.Nothing o = Unit {0}
IsWhole h o = IsSome o

module _ {O I S F : Type 0} (of : Meaning O I S F) where
  abbrev pub some_touches : Option O → Spot → Bool
  some_touches None s = false
  some_touches (Some o) s = touches of o s

  -- what an attribute stands for may change with what stands there
  abbrev pub attr_touches : Attr O → Spot → Bool
  attr_touches (attr.Reg r) s = touches of (of.register r) s
  attr_touches (attr.InSlot w) s = touches of (of.slot w) s
  attr_touches (attr.Value o) s = touches of o s
  attr_touches (attr.Place o) s = touches of o s
  attr_touches (attr.Con n) s = false
  attr_touches (attr.Ea o) s = touches of o s
  attr_touches (attr.Token l) s = some_touches (token_operand of l.tok l.att) s
  attr_touches attr.Nothing s = false

  abbrev pub Avoids : Spot → List (Attr O) → Type 0
  Avoids s [] = Unit {0}
  Avoids s (h ∷ hs) = (attr_touches h s ≡ false) × Avoids s hs

  -- an attribute of a symbol of this kind, which is in a register where it is a register's
  abbrev pub KindFits : Option Kind → Attr O → Type 0
  KindFits (Some kind.Reg) (attr.Reg r) = r < 12
  KindFits (Some (kind.Value size)) (attr.Value o) = of.fits (kind.Value size) o ≡ true
  KindFits (Some (kind.Place size)) (attr.Place o) = of.fits (kind.Place size) o ≡ true
  KindFits (Some kind.Con) (attr.Con n) = n < 2 ^ 32
  KindFits (Some kind.Ea) (attr.Ea o) = of.fits kind.Ea o ≡ true
  KindFits k h = ⊥

  abbrev pub SymFits : List Class → Sym → Attr O → Type 0
  SymFits classes (grammar_symbol.Tok x) (attr.Token l) = (l.tok ≡ x) × (leaf_fits l ≡ true) × InFrame l.att
  SymFits classes (grammar_symbol.Tok x) h = ⊥
  SymFits classes (grammar_symbol.Class c) h = KindFits (kind_at classes c) h

  abbrev pub Fit : List Class → List Sym → List (Attr O) → Type 0
  Fit classes [] [] = Unit {0}
  Fit classes (s ∷ right) (h ∷ hs) = SymFits classes s h × Fit classes right hs
  Fit classes right hs = ⊥

  -- what stands for `%0`: a register that no symbol touches, or that they may touch, or nothing
  abbrev pub IsResult : Give → List (Attr O) → Attr O → Type 0
  IsResult give.Fresh hs (attr.Reg r) = (r < 12) × Avoids (RegAt r) hs
  IsResult give.Reuse hs (attr.Reg r) = r < 12
  IsResult give.Scratch hs (attr.Reg r) = (r < 12) × Avoids (RegAt r) hs
  IsResult give.Nothing hs attr.Nothing = Unit {0}
  IsResult (give.Shape l) hs attr.Nothing = Unit {0}
  IsResult g hs h = ⊥

  -- the lines of a rule
  abbrev pub lines_of : TreeProgram → Rule → List (Attr O) → Attr O → List I
  lines_of q rule hs res = map (λ (l : Line). of.instr q l hs res) rule.lines

  -- A rule that the target takes: its holes are of the symbols' kinds, are as its restrictions say, and have the view's numbers, and no
  -- access to memory breaks that its effect makes, every one, or all but those whose address divides by zero.
  pub record Instance (every : Bool) (q : TreeProgram) (f : Extent) (fs : List Extent) (classes : List Class) (rule : Rule)
      (e : EffectShape) (hs : List (Attr O)) (v : View) (m : S) : Type 0 where
    pub program : IsValid q
    pub rule_fits : IsRule classes rule
    pub taken : of.effect classes rule ≡ Ok e
    pub holes_fit : Fit classes rule.right hs
    pub restricted : AreRestricted q (hole hs) rule.restrictions
    -- each symbol that has a number is worth it, the number is of its size, and each symbol but a place has one
    pub values : (i x : ℕ) (h : Attr O) → hole hs i ≡ Some h → v.symbol i ≡ Some x → worth of q (size_at classes rule.right i) h m ≡ Some x
    pub small : (i x : ℕ) → v.symbol i ≡ Some x → x < 2 ^ (8 * bytes_of (size_at classes rule.right i))
    pub whole : (i : ℕ) (h : Attr O) → hole hs i ≡ Some h → IsWhole h (v.symbol i)
    -- each place's address can be found
    pub homes : (i : ℕ) (h : Attr O) (o : O) → hole hs i ≡ Some h → own_operand of h ≡ Some o
        → IsSome (of.names o (size_at classes rule.right i) m)
    pub agrees : of.agrees q f fs v.state m
    pub room : of.has_room m
    pub read : AllByRecursion (IsReadWhere every v) (terms_of e)
    -- only a rule that begins with Save looks at the last call's result
    pub answered : begins_with_save rule.right ≡ true → of.answer m ≡ v.state.running.result

  -- an instance with its `%0`, whose lines are run where no divisor is 0
  pub record Ready (q : TreeProgram) (f : Extent) (fs : List Extent) (classes : List Class) (rule : Rule)
      (e : EffectShape) (hs : List (Attr O)) (res : Attr O) (v : View) (m : S) : Type 0 where
    pub instance_of : Instance true q f fs classes rule e hs v m
    pub result : IsResult rule.give hs res
    pub divides : DividesByNone v e
