use Rattle.std.proofs.Common.{arith}
use Rattle.lr_tables.proofs.Loops.{row_turn, row_full}
use Rattle.lr_tables.proofs.numbering.enter_row.Goals as goal

pub returns-then-len-gt-MAX_STATES-clause-full : goal.returns-then-len-gt-MAX_STATES-clause-full
returns-then-len-gt-MAX_STATES-clause-full c = λ _.
    row_full _ _ _ _ c.loop-symbol.symbol _ 4096 c.enter.new.sets.keys
    (row_turn _ _ _ _ c.loop-symbol.symbol _ _ _ c.loop-symbol.invariant.entered c.in_ok-kernel.ensures c.in_ok-enter.ensures)
    (omega (arith, c.if-len-gt-MAX_STATES.true, c.len.ensures.len))
    c.loop-symbol-test.true
