-- The law of this crate: the lines of L32's templates, with their holes filled, are valid instructions.
use Rattle.std.specs.Prelude.{◌≡◌, ℕ, ◌<◌, List, [], ◌∷◌, Ok, true}
use Rattle.std.specs.List.{AllByRecursion}
use Rattle.gg_base.specs.declared.limits.TheConstants.{NEED_LIMIT}
use Rattle.gg_base.specs.declared.size.Size.{Size}
use Rattle.l32_target_fits.specs.l32_target_operands.specs.vax_target_meaning.specs.tree_core.specs.declared.program.TreeProgram.{TreeProgram}
use Rattle.l32_target_fits.specs.l32_target_operands.specs.judging_laws.specs.md_reader_pieces.specs.declared.piece.Line.{Line}
use Rattle.l32_target_fits.specs.l32_target_operands.specs.judging_laws.specs.md_reader.specs.declared.types.Class.{Class}
use Rattle.l32_target_fits.specs.l32_target_operands.specs.judging_laws.specs.md_reader.specs.declared.types.Kind.TheVariants as kind
use Rattle.l32_target_fits.specs.l32_target_operands.specs.judging_laws.specs.md_reader.specs.declared.types.Rule.{Rule}
use Rattle.l32_target_fits.specs.l32_target_operands.specs.judging_laws.specs.md_reader.specs.Valid.{IsRule}
use Rattle.l32_target_fits.specs.l32_target_operands.specs.judging_laws.specs.sel_terms.specs.Effects.{EffectShape}
use Rattle.l32_target_fits.specs.l32_target_operands.specs.judging_laws.specs.sel_target.specs.declared.attr.Attr.{Attr}
use Rattle.l32_target_fits.specs.l32_target_operands.specs.judging_laws.specs.sel_target.specs.declared.attr.Attr.TheVariants as attr
use Rattle.l32_target_fits.specs.l32_target_operands.specs.judging_laws.specs.sel_target.specs.Instances.{hole, Fit, IsResult, lines_of}
use Rattle.l32_target_fits.specs.l32_target_operands.specs.judging_laws.specs.sel_target.specs.Restrictions.{AreRestricted}
use Rattle.l32_target_fits.specs.l32_target_operands.specs.judging_laws.specs.sel_target.specs.Spelled.{AreSpelled}
use Rattle.l32_target_fits.specs.l32_target_operands.specs.judging_laws.specs.sel_target.specs.SavingLaws.{Saves, Reloads, IsValue}
use Rattle.l32_target_fits.specs.l32_target_operands.specs.l32_templates.specs.l32_core.specs.declared.operand.Operand32.{Operand32}
use Rattle.l32_target_fits.specs.l32_target_operands.specs.l32_target_meaning.specs.L32.{l32}

pub record LinesAreWritten : Type 0 where
  -- the lines of a rule
  pub rules : (q : TreeProgram) (classes : List Class) (rule : Rule) (e : EffectShape) (hs : List (Attr Operand32)) (res : Attr Operand32) →
      l32.can_write q → IsRule classes rule → l32.effect classes rule ≡ Ok e → Fit l32 classes rule.right hs →
      AreRestricted q (hole hs) rule.restrictions → AreSpelled q hs → IsResult l32 rule.give hs res →
      AllByRecursion (λ i. l32.is_instr i ≡ true) (lines_of l32 q rule hs res)
  -- those that save a value, a place or an address, and that reload
  pub value : (q : TreeProgram) (size : Size) (l : Line) (a : Attr Operand32) (w : ℕ) → l32.can_write q → Saves l32 (kind.Value size) l
      → IsValue l32 size a → w < NEED_LIMIT → l32.is_instr (l32.instr q l (a ∷ []) (attr.Place (l32.slot w))) ≡ true
  pub place : (q : TreeProgram) (size : Size) (l : Line) (o : Operand32) (w : ℕ) → l32.can_write q → Saves l32 (kind.Place size) l
      → l32.fits (kind.Place size) o ≡ true → w < NEED_LIMIT
      → l32.is_instr (l32.instr q l (attr.Place o ∷ []) (attr.Place (l32.slot w))) ≡ true
  pub address : (q : TreeProgram) (l : Line) (o : Operand32) (w : ℕ) → l32.can_write q → Saves l32 kind.Ea l
      → l32.fits kind.Ea o ≡ true → w < NEED_LIMIT → l32.is_instr (l32.instr q l (attr.Ea o ∷ []) (attr.Place (l32.slot w))) ≡ true
  pub reload : (q : TreeProgram) (l : Line) (w r : ℕ) → l32.can_write q → Reloads l32 l → r < 12 → w < NEED_LIMIT
      → l32.is_instr (l32.instr q l (attr.Value (l32.slot w) ∷ []) (attr.Reg r)) ≡ true
