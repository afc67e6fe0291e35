use Rattle.std.specs.Prelude.{map}
use Rattle.c_program.specs.Statements.{declaration, acts}
use Rattle.c_lower_parts.specs.Views.{done, destination}
use Rattle.std.proofs.Common.{◌≡◌}
use Rattle.c_lower_scheme.specs.Flow.{two_done}
use Rattle.c_lower_code.proofs.Rows.{declare_begins}
use Rattle.c_lower_code.proofs.Slices.{declare_on, room_kept}
use Rattle.c_lower_code.proofs.lowerer.Lowerer.declare.Goals as goal

pub loop-i-init : goal.loop-i-init
loop-i-init c = declare_begins c.args.self.frame.locals c.args.self.frame.functions c.args.self.frame.first (destination c.args.self.frame.out)
    (done c.nothing-whole.result) (map declaration c.args.ds.now) (acts c.args.rest.now) c.args.l c.nothing-whole.ensures

pub loop-i-preserved : goal.loop-i-preserved
loop-i-preserved c =
    let w = done c.loop-i.whole in
    let one = done c.in_ok-one.one in
    let next = done c.in_ok-whole.whole in
    let put : next ≡ two_done w one = c.in_ok-whole.ensures in
    let is = c.in_ok-one.ensures in
    let goes = declare_on c.args.self.frame.locals c.args.self.frame.functions c.args.self.frame.first (destination c.args.self.frame.out)
    w one next _ c.args.ds.now c.loop-i.i c.index-ds-i.result (acts c.args.rest.now) c.loop-i-test.true
    c.index-ds-i.is c.loop-i.invariant.0 is put in
    (goes, room_kept c.args.self.frame.first w one next c.loop-i.invariant.1 put)
