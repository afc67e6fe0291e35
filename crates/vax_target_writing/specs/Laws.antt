-- The laws of this crate: what is spelled for a program whose names can be spelled is valid.
use Rattle.std.specs.Prelude.{◌≡◌, ℕ, ◌<◌, List, [], ◌∷◌, Some, Ok, true}
use Rattle.std.specs.List.{AllByRecursion}
use Rattle.gg_base.specs.declared.limits.TheConstants.{NEED_LIMIT}
use Rattle.gg_base.specs.declared.size.Size.{Size}
use Rattle.tree_core.specs.declared.program.TreeProgram.{TreeProgram}
use Rattle.vax_target_meaning.specs.md_reader_pieces.specs.declared.piece.Line.{Line}
use Rattle.vax_target_meaning.specs.md_reader.specs.declared.types.Kind.{Kind}
use Rattle.vax_target_meaning.specs.md_reader.specs.declared.types.Kind.TheVariants as kind
use Rattle.vax_target_meaning.specs.md_reader.specs.declared.types.Class.{Class}
use Rattle.vax_target_meaning.specs.md_reader.specs.declared.types.Give.TheVariants as give
use Rattle.vax_target_meaning.specs.md_reader.specs.declared.types.Rule.{Rule}
use Rattle.vax_target_meaning.specs.md_reader.specs.Patterns.{kind_at}
use Rattle.vax_target_meaning.specs.md_reader.specs.Valid.{IsRule}
use Rattle.vax_target_meaning.specs.sel_terms.specs.Effects.{EffectShape}
use Rattle.vax_target_meaning.specs.sel_target.specs.declared.attr.Attr.{Attr}
use Rattle.vax_target_meaning.specs.sel_target.specs.declared.attr.Attr.TheVariants as attr
use Rattle.vax_target_meaning.specs.sel_target.specs.Instances.{Fit, IsResult, lines_of}
use Rattle.vax_target_meaning.specs.sel_target.specs.SavingLaws.{Saves, Reloads, IsValue}
use Rattle.vax_core.specs.declared.operand.Operand.{Operand}
use Rattle.vax_core.specs.declared.code.Instr.{Instr}
use Rattle.vax_core.specs.Valid.{is_instr}
use Rattle.vax_core.specs.Homes.{home, at_home}
use Rattle.vax_target_meaning.specs.Fitting.{fits, CanWrite}
use Rattle.vax_target_meaning.specs.Vax.{vax}
use Rattle.vax_target_meaning.specs.sel_target.specs.Spelled.{AreSpelled}

abbrev pub IsValid : Instr → Type 0
IsValid i = is_instr i ≡ true

-- the lines of a rule that the target takes, with its holes filled, are valid instructions
abbrev pub LinesAreWritten : Type 0
LinesAreWritten =
    (q : TreeProgram) (classes : List Class) (rule : Rule) (e : EffectShape) (hs : List (Attr Operand)) (res : Attr Operand)
    → CanWrite q → IsRule classes rule → vax.effect classes rule ≡ Ok e → Fit vax classes rule.right hs → AreSpelled q hs
    → IsResult vax rule.give hs res → AllByRecursion IsValid (lines_of vax q rule hs res)

-- the shape of a rule, with its holes filled, may stand for what the rule gives
abbrev pub ShapesFit : Type 0
ShapesFit =
    (q : TreeProgram) (classes : List Class) (rule : Rule) (e : EffectShape) (k : Kind) (l : Line) (hs : List (Attr Operand))
    → CanWrite q → IsRule classes rule → vax.effect classes rule ≡ Ok e → rule.give ≡ give.Shape l → kind_at classes rule.left ≡ Some k
    → Fit vax classes rule.right hs → AreSpelled q hs → fits k (vax.operand q l hs) ≡ true

-- a slot may stand for a value, and what its address names for a place or an address
pub record SlotsFit : Type 0 where
  pub value : (size : Size) (w : ℕ) → w < NEED_LIMIT → fits (kind.Value size) (home w) ≡ true
  pub place : (size : Size) (w : ℕ) → w < NEED_LIMIT → fits (kind.Place size) (at_home w) ≡ true
  pub address : (w : ℕ) → w < NEED_LIMIT → fits kind.Ea (at_home w) ≡ true

-- the line that saves a value, a place or an address in a slot, and that brings a register back, is a valid instruction
pub record SpillsAreWritten : Type 0 where
  pub value : (q : TreeProgram) (size : Size) (l : Line) (a : Attr Operand) (w : ℕ)
      → CanWrite q → Saves vax (kind.Value size) l → IsValue vax size a → w < NEED_LIMIT
      → IsValid (vax.instr q l (a ∷ []) (attr.Place (home w)))
  pub place : (q : TreeProgram) (size : Size) (l : Line) (o : Operand) (w : ℕ)
      → CanWrite q → Saves vax (kind.Place size) l → fits (kind.Place size) o ≡ true → w < NEED_LIMIT
      → IsValid (vax.instr q l (attr.Place o ∷ []) (attr.Place (home w)))
  pub address : (q : TreeProgram) (l : Line) (o : Operand) (w : ℕ)
      → CanWrite q → Saves vax kind.Ea l → fits kind.Ea o ≡ true → w < NEED_LIMIT
      → IsValid (vax.instr q l (attr.Ea o ∷ []) (attr.Place (home w)))
  pub reload : (q : TreeProgram) (l : Line) (w r : ℕ)
      → CanWrite q → Reloads vax l → r < 12 → w < NEED_LIMIT → IsValid (vax.instr q l (attr.Value (home w) ∷ []) (attr.Reg r))
