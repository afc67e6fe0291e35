-- What the lines and the shape of a rule do: laws of a target.
use Rattle.std.specs.Prelude.{◌≡◌, ℕ, ◌≤◌, List, [], ◌∷◌, ◌++◌, length, Some, Ok, true, false}
use Rattle.std.specs.List.{AllByRecursion}
use Rattle.gg_base.specs.declared.size.Size.{Size}
use Rattle.gg_base.specs.declared.size.Size.TheVariants.{Long}
use Rattle.tree_core.specs.declared.program.TreeProgram.{TreeProgram}
use Rattle.tree_meaning.specs.State.{Extent}
use Rattle.md_reader_pieces.specs.declared.piece.Line.{Line}
use Rattle.md_reader_pieces.specs.declared.piece.Piece.TheVariants as piece
use Rattle.sel_terms_meaning.specs.md_reader.specs.declared.types.Kind.TheVariants as kind
use Rattle.sel_terms_meaning.specs.md_reader.specs.declared.types.Class.{Class}
use Rattle.sel_terms_meaning.specs.md_reader.specs.declared.types.Give.TheVariants as give
use Rattle.sel_terms_meaning.specs.md_reader.specs.declared.types.Rule.{Rule}
use Rattle.sel_terms_meaning.specs.md_reader.specs.Patterns.{kind_at}
use Rattle.sel_terms_meaning.specs.md_reader.specs.Valid.{IsRule}
use Rattle.sel_terms_meaning.specs.term_core.specs.Shape.{Shape, Symbol}
use Rattle.sel_terms_meaning.specs.sel_terms.specs.Effects.{EffectShape, Value, Number, Address, PlaceHome, PlaceAt}
use Rattle.sel_terms_meaning.specs.Alike.{IsNarrowEffect}
use Rattle.sel_target.specs.declared.attr.Attr.{Attr}
use Rattle.sel_target.specs.declared.attr.Attr.TheVariants as attr
use Rattle.sel_target.specs.Courses.{comes, traps, followed}
use Rattle.sel_target.specs.Meaning.{Meaning, RegAt}
use Rattle.sel_target.specs.Values.{View, value, worth, own_operand}
use Rattle.sel_target.specs.Restrictions.{AreRestricted}
use Rattle.sel_target.specs.Spelled.{AreSpelled}
use Rattle.sel_target.specs.Instances.{hole, Fit, IsResult, lines_of, Instance, Ready}
use Rattle.sel_target.specs.Outcomes.{Keeps, Sets}

module _ {O I S F : Type 0} (of : Meaning O I S F) where
  -- Instructions are done one after another.
  pub record RunsInOrder : Type 0 where
    pub run_none : (m : S) → of.run [] m ≡ comes m
    pub run_on : (p r : List I) (m : S) → of.run (p ++ r) m ≡ followed (of.run p m) r (of.run r)

  -- The lines of a rule with a result, and of any rule where a divisor is zero.
  pub record DoesTemplates : Type 0 where
    -- the result is in its register, and all else is kept
    pub result : (q : TreeProgram) (f : Extent) (fs : List Extent) (classes : List Class) (rule : Rule) (e : EffectShape) (t : Shape)
        (hs : List (Attr O)) (r : ℕ) (v : View) (m : S) →
        Ready of q f fs classes rule e hs (attr.Reg r) v m → e.act ≡ Value t →
        Sets of (lines_of of q rule hs (attr.Reg r)) (RegAt r) q Long (attr.Reg r) (value v t) m
    -- a zero divisor traps
    pub trap : (q : TreeProgram) (f : Extent) (fs : List Extent) (classes : List Class) (rule : Rule) (e : EffectShape) (d : Shape)
        (hs : List (Attr O)) (res : Attr O) (v : View) (m : S) →
        Instance of false q f fs classes rule e hs v m → IsResult of rule.give hs res → e.divisors ≡ d ∷ [] → value v d ≡ 0 →
        of.run (lines_of of q rule hs res) m ≡ traps
    -- the constants of an effect are longwords
    pub narrow : (classes : List Class) (rule : Rule) (e : EffectShape) → of.effect classes rule ≡ Ok e → IsNarrowEffect e
    -- no rule divides twice
    pub one_divisor : (classes : List Class) (rule : Rule) (e : EffectShape) → of.effect classes rule ≡ Ok e → length e.divisors ≤ 1
    -- a statement has a line
    pub some_line : (classes : List Class) (rule : Rule) (e : EffectShape) →
        of.effect classes rule ≡ Ok e → kind_at classes rule.left ≡ Some kind.Nothing → 1 ≤ length rule.lines
    -- The lines of a program whose names can be spelled, with its tokens' numbers longwords and its objects there, are valid instructions
    -- where the rule's restrictions hold.
    pub lines_written : (q : TreeProgram) (classes : List Class) (rule : Rule) (e : EffectShape) (hs : List (Attr O)) (res : Attr O) →
        of.can_write q → IsRule classes rule → of.effect classes rule ≡ Ok e → Fit of classes rule.right hs →
        AreRestricted q (hole hs) rule.restrictions → AreSpelled q hs → IsResult of rule.give hs res →
        AllByRecursion (λ i. of.is_instr i ≡ true) (lines_of of q rule hs res)

  -- A rule that gives a shape: its lines change nothing, and the operand stands for what the rule gives.
  pub record GivesShapes : Type 0 where
    pub quiet : (q : TreeProgram) (f : Extent) (fs : List Extent) (classes : List Class) (rule : Rule) (e : EffectShape) (l : Line)
        (hs : List (Attr O)) (v : View) (m : S) →
        Ready of q f fs classes rule e hs attr.Nothing v m → rule.give ≡ give.Shape l →
        (m' : S) × (of.run (lines_of of q rule hs attr.Nothing) m ≡ comes m') × Keeps of [] m m'
    -- a value is read
    pub value_shape : (q : TreeProgram) (f : Extent) (fs : List Extent) (classes : List Class) (rule : Rule) (e : EffectShape)
        (t : Shape) (size : Size)
        (l : Line) (hs : List (Attr O)) (v : View) (m : S) →
        Instance of true q f fs classes rule e hs v m → rule.give ≡ give.Shape l → kind_at classes rule.left
        ≡ Some (kind.Value size) → e.act ≡ Value t →
        of.reads (of.operand q l hs) size m ≡ Some (value v t)
    -- a place in memory and an address are named
    pub place_shape : (q : TreeProgram) (f : Extent) (fs : List Extent) (classes : List Class) (rule : Rule) (e : EffectShape)
        (a : Shape) (size : Size)
        (l : Line) (hs : List (Attr O)) (v : View) (m : S) →
        Instance of true q f fs classes rule e hs v m → rule.give ≡ give.Shape l → kind_at classes rule.left ≡ Some (kind.Place size) →
        e.act ≡ PlaceAt size a → of.names (of.operand q l hs) size m ≡ Some (value v a)
    pub address_shape : (q : TreeProgram) (f : Extent) (fs : List Extent) (classes : List Class) (rule : Rule) (e : EffectShape)
        (t : Shape) (size : Size)
        (l : Line) (hs : List (Attr O)) (v : View) (m : S) →
        Instance of true q f fs classes rule e hs v m → rule.give ≡ give.Shape l → kind_at classes rule.left ≡ Some kind.Ea
        → e.act ≡ Address t →
        of.names (of.operand q l hs) size m ≡ Some (value v t)
    -- a symbol's own place keeps its operand
    pub home_shape : (q : TreeProgram) (classes : List Class) (rule : Rule) (e : EffectShape) (size : Size) (i : ℕ) (l : Line)
        (hs : List (Attr O)) (h : Attr O) →
        of.effect classes rule ≡ Ok e → rule.give ≡ give.Shape l → e.act ≡ PlaceHome size i → Fit of classes rule.right hs
        → hole hs i ≡ Some h →
        own_operand of h ≡ Some (of.operand q l hs)
    -- a register and a number are a symbol's own
    pub register_shape : (classes : List Class) (rule : Rule) (e : EffectShape) (i : ℕ) (l : Line) →
        of.effect classes rule ≡ Ok e → rule.give ≡ give.Shape l → kind_at classes rule.left ≡ Some kind.Reg → l.pieces
        ≡ piece.Hole i ∷ [] →
        e.act ≡ Value (Symbol i)
    pub number_shape : (q : TreeProgram) (f : Extent) (fs : List Extent) (classes : List Class) (rule : Rule) (e : EffectShape)
        (i n : ℕ) (l : Line)
        (hs : List (Attr O)) (h : Attr O) (v : View) (m : S) →
        Instance of true q f fs classes rule e hs v m → rule.give ≡ give.Shape l → kind_at classes rule.left ≡ Some kind.Con →
        l.pieces ≡ piece.Hole i ∷ [] → hole hs i ≡ Some h → worth of q Long h m ≡ Some n → (t : Shape) × (e.act ≡ Number t)
        × (value v t ≡ n)
