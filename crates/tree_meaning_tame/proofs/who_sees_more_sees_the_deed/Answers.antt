use Rattle.tree_meaning_tame.proofs.Law.{sees_the_deed}
use Rattle.tree_meaning_tame.proofs.who_sees_more_sees_the_deed.Goals as goal

pub returns : goal.returns
returns c = sees_the_deed
