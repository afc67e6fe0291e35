-- The laws of this crate: what slots and shapes may stand for.
use Rattle.std.specs.Prelude.{◌≡◌, ℕ, ◌<◌, List, Some, Ok, true}
use Rattle.gg_base.specs.declared.limits.TheConstants.{NEED_LIMIT}
use Rattle.gg_base.specs.declared.size.Size.{Size}
use Rattle.l32_target_operands.specs.vax_target_meaning.specs.tree_core.specs.declared.program.TreeProgram.{TreeProgram}
use Rattle.l32_target_operands.specs.judging_laws.specs.md_reader_pieces.specs.declared.piece.Line.{Line}
use Rattle.l32_target_operands.specs.judging_laws.specs.md_reader.specs.declared.types.Class.{Class}
use Rattle.l32_target_operands.specs.judging_laws.specs.md_reader.specs.declared.types.Kind.{Kind}
use Rattle.l32_target_operands.specs.judging_laws.specs.md_reader.specs.declared.types.Kind.TheVariants as kind
use Rattle.l32_target_operands.specs.judging_laws.specs.md_reader.specs.declared.types.Rule.{Rule}
use Rattle.l32_target_operands.specs.judging_laws.specs.md_reader.specs.declared.types.Give.TheVariants as give
use Rattle.l32_target_operands.specs.judging_laws.specs.md_reader.specs.Patterns.{kind_at}
use Rattle.l32_target_operands.specs.judging_laws.specs.md_reader.specs.Valid.{IsRule}
use Rattle.l32_target_operands.specs.judging_laws.specs.sel_terms.specs.Effects.{EffectShape}
use Rattle.l32_target_operands.specs.judging_laws.specs.sel_target.specs.declared.attr.Attr.{Attr}
use Rattle.l32_target_operands.specs.judging_laws.specs.sel_target.specs.Instances.{hole, Fit}
use Rattle.l32_target_operands.specs.judging_laws.specs.sel_target.specs.Restrictions.{AreRestricted}
use Rattle.l32_target_operands.specs.judging_laws.specs.sel_target.specs.Spelled.{AreSpelled}
use Rattle.l32_target_operands.specs.l32_templates.specs.l32_core.specs.declared.operand.Operand32.{Operand32}
use Rattle.l32_target_operands.specs.l32_target_meaning.specs.L32.{l32}

pub record SlotsFit : Type 0 where
  pub value : (size : Size) (w : ℕ) → w < NEED_LIMIT → l32.fits (kind.Value size) (l32.slot w) ≡ true
  pub place : (size : Size) (w : ℕ) → w < NEED_LIMIT → l32.fits (kind.Place size) (l32.slot_deferred w) ≡ true
  pub address : (w : ℕ) → w < NEED_LIMIT → l32.fits kind.Ea (l32.slot_deferred w) ≡ true

abbrev pub ShapesFit : Type 0
ShapesFit = (q : TreeProgram) (classes : List Class) (rule : Rule) (e : EffectShape) (k : Kind) (l : Line) (hs : List (Attr Operand32)) →
    l32.can_write q → IsRule classes rule → l32.effect classes rule ≡ Ok e → rule.give ≡ give.Shape l → kind_at classes rule.left ≡ Some k →
    Fit l32 classes rule.right hs → AreRestricted q (hole hs) rule.restrictions → AreSpelled q hs → l32.fits k (l32.operand q l hs) ≡ true
