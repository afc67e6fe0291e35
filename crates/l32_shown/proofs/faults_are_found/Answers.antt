use Rattle.l32_shown.proofs.Shown.{wrong_ones_are_told}
use Rattle.l32_shown.proofs.faults_are_found.Goals as goal

pub returns : goal.returns
returns c = wrong_ones_are_told
