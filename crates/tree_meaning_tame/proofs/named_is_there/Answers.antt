use Rattle.tree_meaning_tame.proofs.Named as named
use Rattle.tree_meaning_tame.proofs.named_is_there.Goals as goal

pub returns : goal.returns
returns c = named.named_is_there
