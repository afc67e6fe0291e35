use Rattle.c_lower_parts.specs.Views.{destination}
use Rattle.c_program.specs.Statements.{acts, declaration}
use Rattle.std.specs.Prelude.{map}
use Rattle.std.proofs.Common.{ap}
use Rattle.c_lower_code.proofs.Rows.{clear_is}
use Rattle.c_lower_code.proofs.lowerer.Lowerer.one_declared.Goals as goal

pub returns-in-Clear : goal.returns-in-Clear
returns-in-Clear c =
    let is = clear_is c.args.self.frame.locals c.args.self.frame.functions c.args.self.frame.first (destination c.args.self.frame.out) c.in-Clear.n
    (declaration c.args.d.now) (map declaration c.args.others.now) (acts c.args.rest.now) c.args.l c.is_zeroed.result (ap declaration c.in-Clear.is) c.is_zeroed.ensures in
    rw is c.cleared.ensures
