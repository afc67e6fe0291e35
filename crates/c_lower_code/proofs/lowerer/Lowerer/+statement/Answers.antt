use Rattle.std.proofs.Common.{rules, ◌≡◌}
use Rattle.c_program.proofs.Rows.{block_is}
use Rattle.c_program.specs.Statements.{acts}
use Rattle.c_lower_parts.specs.Views.{done, destination}
use Rattle.c_lower_scheme.specs.Flow.{two_done}
use Rattle.c_lower_code.proofs.Rows.{row_begins}
use Rattle.c_lower_code.proofs.Slices.{row_goes, room_kept}
use Rattle.c_lower_code.proofs.lowerer.Lowerer.+statement.Goals as goal

pub row-loop-i-init : goal.row-loop-i-init
row-loop-i-init t c = row_begins c.args.self.frame.locals c.args.self.frame.functions c.args.self.frame.first (destination c.args.self.frame.out)
    (done c.nothing-whole.result) (acts c.args.all.now) c.args.exits.broken c.args.exits.onward c.args.l c.nothing-whole.ensures

pub statement-returns-in-Block : goal.statement-returns-in-Block
statement-returns-in-Block t c =
    rw (block_is c.args.a.now c.in-Block.all c.deref-in-Block.result.now c.in-Block.is (search rules)) c.row.ensures

pub row-loop-i-preserved : goal.row-loop-i-preserved
row-loop-i-preserved t c =
    let w = done c.loop-i.whole in
    let one = done c.in_ok-one.one in
    let next = done c.in_ok-whole.whole in
    let put : next ≡ two_done w one = c.in_ok-whole.ensures in
    let is = c.in_ok-one.ensures in
    let goes = row_goes c.args.self.frame.locals c.args.self.frame.functions c.args.self.frame.first (destination c.args.self.frame.out)
    w one next _ c.args.all.now c.loop-i.i c.index-all-i.result c.args.exits.broken c.args.exits.onward c.loop-i-test.true
    c.index-all-i.is c.loop-i.invariant.0 is put in
    (goes, room_kept c.args.self.frame.first w one next c.loop-i.invariant.1 put)
