use Rattle.sel_terms.specs.Effects.{effect_of}
use Rattle.sel_terms.proofs.Alike.{same_effect_tells, answer_tells}
use Rattle.sel_terms.proofs.same.same_effect.Goals as goal

pub returns : goal.returns
returns c = answer_tells _ _ _ c.have_same_parts.ensures (same_effect_tells (effect_of c.args.a.now) (effect_of c.args.b.now))
