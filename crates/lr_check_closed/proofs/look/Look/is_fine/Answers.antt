use Rattle.std.proofs.Common.{below_more, arith}
use Rattle.lr_check_closed.specs.Looks.{automaton}
use Rattle.lr_check_closed.proofs.Ending.{all_fine, rows_fine}
use Rattle.lr_check_closed.proofs.look.Look.is_fine.Goals as goal

pub loop-at-preserved : goal.loop-at-preserved
loop-at-preserved c = record {
  held = c.in_ok-is_fine_at.ensures.held;
  fine = below_more _ _ c.loop-at.invariant.fine (c.in_ok-is_fine_at.ensures.fine c.if-not-branch.false);
}

pub returns : goal.returns
returns c = λ u.
    let A = automaton c.args.self.now in
    let v = c.args.self.now.lists.now in
    let rows = c.args.self.now.rows.now in
    rows_fine A v rows c.requires.rows (all_fine A v rows (λ n lt. c.loop-at.invariant.fine n (let end = c.loop-at-test.false in omega (arith, lt, end))))
