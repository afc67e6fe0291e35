use Rattle.tree_meaning_tame.proofs.Law.{trap_is_tame}
use Rattle.tree_meaning_tame.proofs.traps_are_tame.Goals as goal

pub returns : goal.returns
returns c = trap_is_tame
