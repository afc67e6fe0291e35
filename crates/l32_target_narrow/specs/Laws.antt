-- The law of this crate: the constants of what templates do are longwords.
use Rattle.std.specs.Prelude.{◌≡◌, List, Ok}
use Rattle.l32_target_operands.specs.judging_laws.specs.md_reader_pieces.specs.declared.piece.Line.{Line}
use Rattle.l32_target_operands.specs.judging_laws.specs.md_reader.specs.declared.types.Kind.{Kind}
use Rattle.l32_target_operands.specs.judging_laws.specs.md_reader.specs.declared.types.Class.{Class}
use Rattle.l32_target_operands.specs.judging_laws.specs.md_reader.specs.declared.types.Rule.{Rule}
use Rattle.l32_target_operands.specs.judging_laws.specs.sel_terms.specs.Effects.{EffectShape}
use Rattle.l32_target_operands.specs.judging_laws.specs.sel_target.specs.sel_terms_meaning.specs.Alike.{IsNarrowEffect}
use Rattle.l32_target_operands.specs.l32_target_meaning.specs.L32.{l32}

-- of a rule's effect, and of the effect of a line that saves or reloads
pub record EffectsAreNarrow : Type 0 where
  pub rules : (classes : List Class) (rule : Rule) (e : EffectShape) → l32.effect classes rule ≡ Ok e → IsNarrowEffect e
  pub spills : (k : Kind) (l : Line) (e : EffectShape) → l32.spill_effect k l ≡ Ok e → IsNarrowEffect e
