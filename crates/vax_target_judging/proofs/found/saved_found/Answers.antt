use Rattle.std.proofs.Common.{subst, Result}
use Rattle.sel_terms.specs.Effects.{EffectShape, effect_of}
use Rattle.sel_target.specs.Meaning.{Fault}
use Rattle.template_judging.specs.Answers.{Answers}
use Rattle.vax_target_judging.proofs.Same.{saved_is}
use Rattle.vax_target_judging.proofs.found.saved_found.Goals as goal

pub returns : goal.returns
returns c = subst (λ (wanted : Result EffectShape Fault). Answers effect_of c.saved_found.result wanted) (saved_is c.args.kind c.args.line.now) c.saved_found.ensures
