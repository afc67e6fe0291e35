use Rattle.std.proofs.Common.{subst, Result}
use Rattle.sel_terms.specs.Effects.{EffectShape, effect_of}
use Rattle.sel_target.specs.Meaning.{Fault}
use Rattle.template_judging.specs.Answers.{Answers}
use Rattle.vax_target_judging.proofs.Same.{found_is}
use Rattle.vax_target_judging.proofs.found.found.Goals as goal

pub returns : goal.returns
returns c = subst (λ (wanted : Result EffectShape Fault). Answers effect_of c.found.result wanted) (found_is c.args.classes.now c.args.rule.now) c.found.ensures
