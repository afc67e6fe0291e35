use Rattle.judging_effects.proofs.Founds.{effects_hold_reads}
use Rattle.judging_effects.proofs.laws.effects_hold_reads.Goals as goal

pub returns : goal.returns
returns c = effects_hold_reads
