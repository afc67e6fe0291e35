use Rattle.tree_core.proofs.Walking.{typed_exactly}
use Rattle.tree_core.proofs.typing.typed.Goals as goal

pub returns : goal.returns
returns c = typed_exactly c.args.leaves.now c.args.sort c.walks.result c.walks.ensures
