-- The law of rules.
use Rattle.vax_target_rules.specs.Laws.{ResultsAreLeft}
use Rattle.vax_target_rules.proofs.Results.{result_so}

pub results_are_left : ResultsAreLeft
results_are_left q f fs classes rule e t hs r v m ready act = result_so q f fs classes rule e t hs r v m ready act
