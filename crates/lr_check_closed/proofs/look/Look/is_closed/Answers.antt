use Rattle.std.proofs.Common.{below_more, arith}
use Rattle.lr_check_closed.specs.Looks.{automaton}
use Rattle.lr_check_closed.proofs.Showing.{all_closed, rows_closed}
use Rattle.lr_check_closed.proofs.look.Look.is_closed.Goals as goal

pub loop-at-preserved : goal.loop-at-preserved
loop-at-preserved c = below_more _ _ c.loop-at.invariant (c.in_ok-is_closed_at.ensures c.if-not-branch.false)

pub returns : goal.returns
returns c = λ u.
    let A = automaton c.args.self.now in
    let v = c.args.self.now.lists.now in
    let rows = c.args.self.now.rows.now in
    rows_closed A v rows c.requires.lists c.requires.rows (λ k may. (c.are_started.ensures c.if-not-are_started.false k (c.tokens.ensures k)).place may)
    (all_closed A v rows (λ n lt. c.loop-at.invariant n (let end = c.loop-at-test.false in omega (arith, lt, end))))
