use Rattle.std.proofs.Common.{rules}
use Rattle.lr_check_decided.specs.declared.held.CalmAt.{CalmAt}
use Rattle.lr_check_decided.proofs.Holding.{more_right}
use Rattle.lr_check_decided.proofs.held.CalmHeld.hold.Goals as goal

pub returns : goal.returns
returns c = λ A right calm.
    let x : CalmAt = record { state = c.args.state; behind = c.args.behind; marks = c.args.marks } in
    more_right A c.args.self.now _ x right calm (search rules)
