-- What each line of a description passes, as it is written, each instruction of a selection passes.
use Rattle.std.specs.Prelude.{◌≡◌, ℕ, ◌≤◌, ◌<◌, List, [], ◌∷◌, Bool, true, Ok}
use Rattle.std.specs.List.{AllByRecursion}
use Rattle.gg_base.specs.declared.limits.TheConstants.{NEED_LIMIT}
use Rattle.gg_base.specs.declared.size.Size.{Size}
use Rattle.tree_core.specs.declared.tree.Leaf.{Leaf}
use Rattle.tree_core.specs.declared.program.TreeProgram.{TreeProgram}
use Rattle.md_reader_pieces.specs.declared.piece.Line.{Line}
use Rattle.md_reader.specs.declared.types.Kind.TheVariants as kind
use Rattle.md_reader.specs.declared.types.Rule.{Rule}
use Rattle.md_reader.specs.State.{Content}
use Rattle.md_reader.specs.Valid.{IsRule}
use Rattle.sel_target.specs.sel_terms.specs.Effects.{EffectShape}
use Rattle.sel_target.specs.declared.attr.Attr.{Attr}
use Rattle.sel_target.specs.declared.attr.Attr.TheVariants as attr
use Rattle.sel_target.specs.Meaning.{Meaning}
use Rattle.sel_target.specs.Instances.{hole, Fit, IsResult, lines_of}
use Rattle.sel_target.specs.Restrictions.{AreRestricted}
use Rattle.sel_target.specs.Spelled.{AreSpelled}
use Rattle.sel_target.specs.SavingLaws.{Saves, Reloads, IsValue}
use Rattle.sel_parse_law.specs.sel_parse_desk.specs.Selected.{Selected}
use Rattle.sel_parse_law.specs.Claims.{IsReady}

module _ {O I S F : Type 0} (of : Meaning O I S F) (q : TreeProgram) (d : Content) where
  -- A test of instructions that each line passes as it is written: those of a rule, where its holes fit its symbols, are as its
  -- restrictions say, and can be spelled, and those that save and reload.
  pub record LinesPass (good : I → Bool) : Type 0 where
    pub rules : (rule : Rule) (e : EffectShape) (hs : List (Attr O)) (result : Attr O) → IsRule d.classes rule
        → of.effect d.classes rule ≡ Ok e → Fit of d.classes rule.right hs → AreRestricted q (hole hs) rule.restrictions → AreSpelled q hs
        → IsResult of rule.give hs result
        → AllByRecursion (λ (i : I). good i ≡ true) (lines_of of q rule hs result)
    pub values : (size : Size) (l : Line) (a : Attr O) (w : ℕ) → Saves of (kind.Value size) l → IsValue of size a → w < NEED_LIMIT
        → good (of.instr q l (a ∷ []) (attr.Place (of.slot w))) ≡ true
    pub places : (size : Size) (l : Line) (o : O) (w : ℕ) → Saves of (kind.Place size) l → of.fits (kind.Place size) o ≡ true
        → w < NEED_LIMIT → good (of.instr q l (attr.Place o ∷ []) (attr.Place (of.slot w))) ≡ true
    pub addresses : (l : Line) (o : O) (w : ℕ) → Saves of kind.Ea l → of.fits kind.Ea o ≡ true → w < NEED_LIMIT
        → good (of.instr q l (attr.Ea o ∷ []) (attr.Place (of.slot w))) ≡ true
    pub reloads : (l : Line) (w r : ℕ) → Reloads of l → r < 12 → w < NEED_LIMIT
        → good (of.instr q l (attr.Value (of.slot w) ∷ []) (attr.Reg r)) ≡ true

module _ {O I S F : Type 0} (of : Meaning O I S F) where
  -- Each instruction of a typed statement tree's code passes such a test.
  abbrev pub SelectionsPass : Type 0
  SelectionsPass =
      (q : TreeProgram) (d : Content) (first : ℕ) (w : List Leaf) (code : List I) (most : ℕ) (good : I → Bool) → IsReady of q d first w
      → LinesPass of q d good → Selected of q d first w code most → AllByRecursion (λ (i : I). good i ≡ true) code

  -- So each is one that can be written.
  abbrev pub SelectionsAreWritten : Type 0
  SelectionsAreWritten =
      (q : TreeProgram) (d : Content) (first : ℕ) (w : List Leaf) (code : List I) (most : ℕ) → IsReady of q d first w
      → Selected of q d first w code most → AllByRecursion (λ (i : I). of.is_instr i ≡ true) code

  -- The code uses words that operands name, where its first slot is one of these or the next.
  abbrev pub SelectionsUseLowWords : Type 0
  SelectionsUseLowWords =
      (q : TreeProgram) (d : Content) (first : ℕ) (w : List Leaf) (code : List I) (most : ℕ) → IsReady of q d first w → first ≤ NEED_LIMIT
      → Selected of q d first w code most → most ≤ NEED_LIMIT
