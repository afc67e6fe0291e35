use Rattle.tree_meaning_tame.proofs.Law.{deed_is_tame}
use Rattle.tree_meaning_tame.proofs.deeds_are_tame.Goals as goal

pub returns : goal.returns
returns c = deed_is_tame
