use Rattle.vax_target_confined.proofs.Reading.{readings_are_confined}
use Rattle.vax_target_confined.proofs.laws.readings_are_confined.Goals as goal

-- src/laws.rt
pub returns : goal.returns
returns c = readings_are_confined
