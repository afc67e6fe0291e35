-- The lemma of `Law`.
use Rattle.vax_target_rules.proofs.Law.{results_are_left}
use Rattle.vax_target_rules.proofs.laws.results_are_left.Goals as goal

pub returns : goal.returns
returns c = results_are_left
