-- The law of this crate: the constants of what templates do are longwords.
use Rattle.std.specs.Prelude.{◌≡◌, List, Ok}
use Rattle.md_reader_pieces.specs.declared.piece.Line.{Line}
use Rattle.vax_target_writing.specs.md_reader.specs.declared.types.Kind.{Kind}
use Rattle.vax_target_writing.specs.md_reader.specs.declared.types.Class.{Class}
use Rattle.vax_target_writing.specs.md_reader.specs.declared.types.Rule.{Rule}
use Rattle.vax_target_writing.specs.sel_terms.specs.Effects.{EffectShape}
use Rattle.vax_target_writing.specs.sel_terms_meaning.specs.Alike.{IsNarrowEffect}
use Rattle.vax_target_writing.specs.vax_target_meaning.specs.Vax.{vax}

-- of a rule's effect, and of the effect of a line that saves or reloads
pub record EffectsAreNarrow : Type 0 where
  pub rules : (classes : List Class) (rule : Rule) (e : EffectShape) → vax.effect classes rule ≡ Ok e → IsNarrowEffect e
  pub spills : (k : Kind) (l : Line) (e : EffectShape) → vax.spill_effect k l ≡ Ok e → IsNarrowEffect e
