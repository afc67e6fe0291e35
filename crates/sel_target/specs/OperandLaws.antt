-- What operands spell, read and name: laws of a target.
use Rattle.std.specs.Prelude.{◌≡◌, ◌↔◌, ℕ, ◌+◌, ◌*◌, ◌^◌, ◌<◌, List, [], ◌∷◌, length, Some, None, IsSome, Ok, true, slice_get}
use Rattle.std.specs.List.{AllByRecursion, list_any}
use Rattle.gg_base.specs.declared.limits.TheConstants.{NEED_LIMIT}
use Rattle.gg_base.specs.declared.size.Size.{Size}
use Rattle.gg_base.specs.declared.size.Size.TheVariants.{Long}
use Rattle.gg_base.specs.Sizes.{bytes_of}
use Rattle.tree_core.specs.declared.program.TreeProgram.{TreeProgram}
use Rattle.tree_core.specs.Area.{fetched}
use Rattle.tree_meaning.specs.State.{State, Extent}
use Rattle.md_reader_pieces.specs.declared.piece.Line.{Line}
use Rattle.md_reader_pieces.specs.declared.piece.Piece.TheVariants as piece
use Rattle.sel_terms_meaning.specs.md_reader.specs.declared.types.Kind.{Kind}
use Rattle.sel_terms_meaning.specs.md_reader.specs.declared.types.Kind.TheVariants as kind
use Rattle.sel_terms_meaning.specs.md_reader.specs.declared.types.Class.{Class}
use Rattle.sel_terms_meaning.specs.md_reader.specs.declared.types.Give.TheVariants as give
use Rattle.sel_terms_meaning.specs.md_reader.specs.declared.types.Rule.{Rule}
use Rattle.sel_terms_meaning.specs.md_reader.specs.Patterns.{kind_at}
use Rattle.sel_terms_meaning.specs.md_reader.specs.Valid.{IsRule}
use Rattle.sel_terms_meaning.specs.sel_terms.specs.Effects.{EffectShape}
use Rattle.sel_target.specs.declared.attr.Attr.{Attr}
use Rattle.sel_target.specs.Meaning.{Meaning, Spot, touches}
use Rattle.sel_target.specs.Values.{own_operand, IsArgument}
use Rattle.sel_target.specs.Restrictions.{AreRestricted}
use Rattle.sel_target.specs.Spelled.{AreSpelled}
use Rattle.sel_target.specs.Instances.{hole, attr_touches, Fit}

module _ {O I S F : Type 0} (of : Meaning O I S F) where
  -- A register's operand spells it alone, a word's that word alone, an argument's neither.
  pub record SpellsItself : Type 0 where
    -- operands that are spelled alike are equal
    pub same_is : (a b : O) → (of.same a b ≡ true) ↔ (a ≡ b)
    pub register_bits : (r : ℕ) → r < 12 → of.registers (of.register r) ≡ 2 ^ r
    pub register_word : (r : ℕ) → r < 12 → of.word (of.register r) ≡ None
    pub slot_bits : (w : ℕ) → w < NEED_LIMIT → of.registers (of.slot w) ≡ 0
    pub slot_word : (w : ℕ) → w < NEED_LIMIT → of.word (of.slot w) ≡ Some w
    pub deferred_bits : (w : ℕ) → w < NEED_LIMIT → of.registers (of.slot_deferred w) ≡ 0
    pub deferred_word : (w : ℕ) → w < NEED_LIMIT → of.word (of.slot_deferred w) ≡ Some w
    pub local_bits : (k : ℕ) → k < NEED_LIMIT → of.registers (of.local k) ≡ 0
    pub local_word : (k : ℕ) → k < NEED_LIMIT → of.word (of.local k) ≡ Some k
    pub argument_bits : (k : ℕ) → IsArgument k → of.registers (of.argument k) ≡ 0
    pub argument_word : (k : ℕ) → IsArgument k → of.word (of.argument k) ≡ None
    -- a shape touches nothing that none of its holes touches
    pub shape_touches : (q : TreeProgram) (classes : List Class) (rule : Rule) (e : EffectShape) (l : Line) (hs : List (Attr O))
        (s : Spot) →
        of.effect classes rule ≡ Ok e → rule.give ≡ give.Shape l → Fit of classes rule.right hs → touches of (of.operand q l hs) s ≡ true →
        list_any (λ h. attr_touches of h s) hs ≡ true
    -- a hole alone, of a symbol that is a place, is that place
    pub alone : (q : TreeProgram) (l : Line) (i : ℕ) (hs : List (Attr O)) (h : Attr O) (o : O) →
        l.pieces ≡ piece.Hole i ∷ [] → hole hs i ≡ Some h → own_operand of h ≡ Some o → of.operand q l hs ≡ o
    -- a slot may stand for a value, and a deferred slot for a place or an address
    pub slot_fits : (size : Size) (w : ℕ) → w < NEED_LIMIT → of.fits (kind.Value size) (of.slot w) ≡ true
    pub deferred_fits : (size : Size) (w : ℕ) → w < NEED_LIMIT → of.fits (kind.Place size) (of.slot_deferred w) ≡ true
    pub deferred_fits_address : (w : ℕ) → w < NEED_LIMIT → of.fits kind.Ea (of.slot_deferred w) ≡ true
    -- A shape may stand for what its rule gives, where the rule's restrictions hold, with its tokens' numbers longwords and their objects
    -- the program's.
    pub shape_fits : (q : TreeProgram) (classes : List Class) (rule : Rule) (e : EffectShape) (k : Kind) (l : Line) (hs : List (Attr O)) →
        of.can_write q → IsRule classes rule → of.effect classes rule ≡ Ok e → rule.give ≡ give.Shape l
        → kind_at classes rule.left ≡ Some k →
        Fit of classes rule.right hs → AreRestricted q (hole hs) rule.restrictions → AreSpelled q hs → of.fits k (of.operand q l hs) ≡ true

  -- In a state that stands for a tree state, operands read and name what is there.
  pub record ReadsWhatIsThere : Type 0 where
    -- what is read is of the size, an address is a longword, and the data area has bytes
    pub reads_small : (q : TreeProgram) (f : Extent) (fs : List Extent) (t : State) (o : O) (size : Size) (x : ℕ) (m : S) →
        of.agrees q f fs t m → of.reads o size m ≡ Some x → x < 2 ^ (8 * bytes_of size)
    pub names_small : (q : TreeProgram) (f : Extent) (fs : List Extent) (t : State) (o : O) (size : Size) (x : ℕ) (m : S) →
        of.agrees q f fs t m → of.names o size m ≡ Some x → x < 2 ^ 32
    pub area_bytes : (q : TreeProgram) (f : Extent) (fs : List Extent) (t : State) (m : S) → of.agrees q f fs t m
        → AllByRecursion (λ b. b < 256) t.area
    -- an operand that names a place of the data area reads what stands there
    pub memory_read : (q : TreeProgram) (f : Extent) (fs : List Extent) (t : State) (o : O) (size : Size) (a x : ℕ) (m : S) →
        of.agrees q f fs t m → of.fits (kind.Place size) o ≡ true → of.names o size m ≡ Some a → fetched size t.area a ≡ Some x
        → of.reads o size m ≡ Some x
    -- and one that spells a register reads nothing else: such a place alone is moved to a slot
    pub place_read : (q : TreeProgram) (f : Extent) (fs : List Extent) (t : State) (o : O) (size : Size) (a x : ℕ) (m : S) →
        of.agrees q f fs t m → of.fits (kind.Place size) o ≡ true → (of.registers o ≡ 0 → ⊥) → of.names o size m ≡ Some a
        → of.reads o size m ≡ Some x →
        fetched size t.area a ≡ Some x
    -- a local that is written has its value; each word of the frame can be read and found
    pub local_read : (q : TreeProgram) (f : Extent) (fs : List Extent) (t : State) (k x : ℕ) (m : S) →
        of.agrees q f fs t m → k < NEED_LIMIT → t.running.locals k ≡ Some x → of.reads (of.local k) Long m ≡ Some x
    pub local_there : (q : TreeProgram) (f : Extent) (fs : List Extent) (t : State) (k : ℕ) (m : S) →
        of.agrees q f fs t m → k < f.words → k < NEED_LIMIT → IsSome (of.reads (of.local k) Long m)
    pub local_named : (q : TreeProgram) (f : Extent) (fs : List Extent) (t : State) (k : ℕ) (m : S) →
        of.agrees q f fs t m → k < f.words → k < NEED_LIMIT → IsSome (of.names (of.local k) Long m)
    -- each argument has its value, and can be found
    pub argument_read : (q : TreeProgram) (f : Extent) (fs : List Extent) (t : State) (k x : ℕ) (m : S) →
        of.agrees q f fs t m → slice_get t.running.arguments k ≡ Some x → of.reads (of.argument (k + 1)) Long m ≡ Some x
    pub argument_there : (q : TreeProgram) (f : Extent) (fs : List Extent) (t : State) (k : ℕ) (m : S) →
        of.agrees q f fs t m → k < length t.running.arguments → IsSome (of.reads (of.argument (k + 1)) Long m)
    pub argument_named : (q : TreeProgram) (f : Extent) (fs : List Extent) (t : State) (k : ℕ) (m : S) →
        of.agrees q f fs t m → k < length t.running.arguments → IsSome (of.names (of.argument (k + 1)) Long m)
