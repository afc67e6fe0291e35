use Rattle.lr_check_closed.specs.Looks.{automaton}
use Rattle.lr_check_closed.proofs.Ending.{none_calm}
use Rattle.lr_check_closed.proofs.look.Look.calm_at.Goals as goal

pub loop-round-init : goal.loop-round-init
loop-round-init c = none_calm (automaton c.args.self.now) c.args.state _ c.in_ok-calm.calm.items (c.in_ok-calm.ensures.items_if_clones_equal (λ y e. e))
