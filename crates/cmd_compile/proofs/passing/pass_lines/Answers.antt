use Rattle.std.proofs.Common.{◌∙◌, arith}
use Rattle.cmd_compile.proofs.Counting.{all_lines}
use Rattle.cmd_compile.proofs.passing.pass_lines.Goals as goal

pub returns : goal.returns
returns c =
    c.from_vec.ensures
    ∙ all_lines c.args.before.now c.args.behind.now c.loop-number.lines.items _ c.loop-number.number
    (omega (arith, c.loop-number-test.false, c.min-count.ensures)) c.loop-number.invariant.1
