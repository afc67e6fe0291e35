-- The lemma of `Kept`.
use Rattle.vax_target_runs.proofs.Kept.{codes_are_kept}
use Rattle.vax_target_runs.proofs.laws.codes_are_kept.Goals as goal

pub returns : goal.returns
returns c = codes_are_kept
