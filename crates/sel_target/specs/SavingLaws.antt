-- What the lines do that save and reload: laws of a target.
use Rattle.std.specs.Prelude.{◌≡◌, ℕ, ◌*◌, ◌^◌, ◌<◌, List, [], ◌∷◌, Some, Ok, true}
use Rattle.gg_base.specs.declared.limits.TheConstants.{NEED_LIMIT}
use Rattle.gg_base.specs.declared.size.Size.{Size}
use Rattle.gg_base.specs.declared.size.Size.TheVariants.{Long}
use Rattle.gg_base.specs.Sizes.{bytes_of, low}
use Rattle.tree_core.specs.declared.program.TreeProgram.{TreeProgram}
use Rattle.tree_meaning.specs.State.{Extent}
use Rattle.md_reader_pieces.specs.declared.piece.Line.{Line}
use Rattle.sel_terms_meaning.specs.md_reader.specs.declared.types.Kind.{Kind}
use Rattle.sel_terms_meaning.specs.md_reader.specs.declared.types.Kind.TheVariants as kind
use Rattle.sel_terms_meaning.specs.md_reader.specs.Valid.{IsSpill}
use Rattle.sel_terms_meaning.specs.term_core.specs.Shape.{Shape, Symbol}
use Rattle.sel_terms_meaning.specs.term_core.specs.Norm.{norm}
use Rattle.sel_terms_meaning.specs.sel_terms.specs.Effects.{EffectShape, Value, StoreHome}
use Rattle.sel_terms_meaning.specs.sel_terms.specs.RuleFacts.{saved_facts, size_of_saved}
use Rattle.sel_terms_meaning.specs.Alike.{IsNarrowEffect}
use Rattle.sel_target.specs.declared.attr.Attr.{Attr}
use Rattle.sel_target.specs.declared.attr.Attr.TheVariants as attr
use Rattle.sel_target.specs.Meaning.{Meaning, RegAt, WordAt, IsFree}
use Rattle.sel_target.specs.Values.{View, value, IsRead, worth}
use Rattle.sel_target.specs.Outcomes.{Sets, SetsName}

module _ {O I S F : Type 0} (of : Meaning O I S F) where
  -- A line that was checked to save what is of a kind: it stores symbol 1 in the slot, of a place or an address the address.
  pub record Saves (k : Kind) (l : Line) : Type 0 where
    pub effect : EffectShape
    pub term : Shape
    pub fits : IsSpill l
    pub taken : of.spill_effect k l ≡ Ok effect
    pub act : effect.act ≡ StoreHome (size_of_saved k) 0 term
    pub undivided : effect.divisors ≡ []
    pub alike : norm (saved_facts k) term ≡ norm (saved_facts k) (Symbol 1)

  -- A line that was checked to reload a register: its result is symbol 1, a slot's longword.
  pub record Reloads (l : Line) : Type 0 where
    pub effect : EffectShape
    pub term : Shape
    pub fits : IsSpill l
    pub taken : of.spill_effect kind.Reg l ≡ Ok effect
    pub act : effect.act ≡ Value term
    pub undivided : effect.divisors ≡ []
    pub alike : norm (saved_facts kind.Reg) term ≡ norm (saved_facts kind.Reg) (Symbol 1)

  -- what may be saved as a value of a size: an operand, and as a longword a register
  pub data IsValue (size : Size) : (a : Attr O) → Type 0 where
    operand : (o : O) → of.fits (kind.Value size) o ≡ true → IsValue size (attr.Value o)
    register : (r : ℕ) → size ≡ Long → r < 12 → IsValue size (attr.Reg r)

  -- The state in which symbol 1 is saved, or reloaded: it stands for the view's tree state, where the view's symbol 1
  -- is n, and the accesses of the line's term don't break.
  pub record IsSet (q : TreeProgram) (f : Extent) (fs : List Extent) (v : View) (n : ℕ) (t : Shape) (m : S) : Type 0 where
    pub agrees : of.agrees q f fs v.state m
    pub room : of.has_room m
    pub symbol : v.symbol 1 ≡ Some n
    pub read : IsRead v t

  -- a word that is free, of the frame and of the words that an operand can name
  pub record IsSlot (f : Extent) (w : ℕ) : Type 0 where
    pub free : IsFree f (WordAt w)
    pub low : w < NEED_LIMIT

  -- the line that saves in a word
  abbrev pub saving : TreeProgram → Line → Attr O → ℕ → List I
  saving q l a w = of.instr q l (a ∷ []) (attr.Place (of.slot w)) ∷ []

  -- the line that brings a word back to a register
  abbrev pub reloading : TreeProgram → Line → ℕ → ℕ → List I
  reloading q l w r = of.instr q l (attr.Value (of.slot w) ∷ []) (attr.Reg r) ∷ []

  -- A value, a place or an address is saved in a slot, and a register is brought back; all else is kept.
  pub record SavesAndReloads : Type 0 where
    pub value_spilled : (q : TreeProgram) (f : Extent) (fs : List Extent) (size : Size) (l : Line)
        (s : Saves (kind.Value size) l) (a : Attr O)
        (w n : ℕ) (v : View) (m : S) →
        IsValue size a → IsSet q f fs v n s.term m → IsSlot f w → worth of q size a m ≡ Some n → n < 2 ^ (8 * bytes_of size) →
        Sets of (saving q l a w) (WordAt w) q size (attr.Value (of.slot w)) (low size (value v s.term)) m
    pub place_spilled : (q : TreeProgram) (f : Extent) (fs : List Extent) (size : Size) (l : Line) (s : Saves (kind.Place size) l) (o : O)
        (w n : ℕ) (v : View) (m : S) →
        of.fits (kind.Place size) o ≡ true → IsSet q f fs v n s.term m → IsSlot f w → of.names o size m ≡ Some n → n < 2 ^ 32 →
        SetsName of (saving q l (attr.Place o) w) (WordAt w) (of.slot_deferred w) (value v s.term) m
    pub address_spilled : (q : TreeProgram) (f : Extent) (fs : List Extent) (l : Line) (s : Saves kind.Ea l) (o : O) (w n : ℕ)
        (v : View) (m : S) →
        of.fits kind.Ea o ≡ true → IsSet q f fs v n s.term m → IsSlot f w → of.names o Long m ≡ Some n → n < 2 ^ 32 →
        SetsName of (saving q l (attr.Ea o) w) (WordAt w) (of.slot_deferred w) (value v s.term) m
    pub reloaded : (q : TreeProgram) (f : Extent) (fs : List Extent) (l : Line) (s : Reloads l) (w r n : ℕ) (v : View) (m : S) →
        r < 12 → w < NEED_LIMIT → IsSet q f fs v n s.term m → of.reads (of.slot w) Long m ≡ Some n → n < 2 ^ 32 →
        Sets of (reloading q l w r) (RegAt r) q Long (attr.Reg r) (value v s.term) m
    -- the constants of a line's effect are longwords
    pub saved_narrow : (k : Kind) (l : Line) (e : EffectShape) → of.spill_effect k l ≡ Ok e → IsNarrowEffect e
    -- these lines are valid instructions
    pub value_written : (q : TreeProgram) (size : Size) (l : Line) (a : Attr O) (w : ℕ) →
        of.can_write q → Saves (kind.Value size) l → IsValue size a → w < NEED_LIMIT
        → of.is_instr (of.instr q l (a ∷ []) (attr.Place (of.slot w))) ≡ true
    pub place_written : (q : TreeProgram) (size : Size) (l : Line) (o : O) (w : ℕ) →
        of.can_write q → Saves (kind.Place size) l → of.fits (kind.Place size) o ≡ true → w < NEED_LIMIT →
        of.is_instr (of.instr q l (attr.Place o ∷ []) (attr.Place (of.slot w))) ≡ true
    pub address_written : (q : TreeProgram) (l : Line) (o : O) (w : ℕ) →
        of.can_write q → Saves kind.Ea l → of.fits kind.Ea o ≡ true → w < NEED_LIMIT →
        of.is_instr (of.instr q l (attr.Ea o ∷ []) (attr.Place (of.slot w))) ≡ true
    pub reload_written : (q : TreeProgram) (l : Line) (w r : ℕ) →
        of.can_write q → Reloads l → r < 12 → w < NEED_LIMIT → of.is_instr (of.instr q l (attr.Value (of.slot w) ∷ []) (attr.Reg r)) ≡ true
