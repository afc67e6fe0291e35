use Rattle.tree_core.proofs.Apart.{apart_is}
use Rattle.tree_core.proofs.objects.links_apart.Goals as goal

pub returns : goal.returns
returns c = apart_is c.args.links.now c.bytes_apart.result c.bytes_apart.ensures
