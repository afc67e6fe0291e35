use Rattle.std.proofs.Common.{◌-◌}
use Rattle.tree_core.specs.Window.{covers}
use Rattle.tree_core.proofs.Windows.{none_met}
use Rattle.tree_core.proofs.window.Window.at.Goals as goal

pub returns-clause-none : goal.returns-clause-none
returns-clause-none c = λ i m. none_met (covers c.args.base m) 4096 (m - c.args.base) i
