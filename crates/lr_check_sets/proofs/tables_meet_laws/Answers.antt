use Rattle.lr_check_sets.proofs.tables_meet_laws.Goals as goal
use Rattle.lr_check_sets.proofs.Meeting as Laws

pub returns : goal.returns
returns c = Laws.tables_meet_laws
