use Rattle.std.proofs.Common.{ap, refl}
use Rattle.c_program.specs.Statements.{acts}
use Rattle.c_program.specs.Programs.{routine}
use Rattle.c_lower_parts.specs.Views.{done, destination}
use Rattle.c_lower_scheme.specs.Trees.{Num}
use Rattle.c_lower_scheme.specs.Parts.{due}
use Rattle.c_lower_code.proofs.Blocks.{body_is}
use Rattle.c_lower_code.proofs.program.body_of.Goals as goal

pub returns : goal.returns
returns c =
    let frame = c.in_ok-frame.frame in
    let is = body_is c.args.pointer c.args.functions c.args.l (routine c.args.of.now) frame.locals frame.functions frame.first (destination frame.out)
    (acts c.deref.result.now) (done c.in_ok-begin.begin) (done c.in_ok-body.body) (done c.in_ok-end.end) (done c.in_ok-rest.rest) (due (Num 0) frame.first (done c.in_ok-body.body).labels)
    c.in_ok-frame.ensures.locals c.in_ok-frame.ensures.first c.in_ok-frame.ensures.functions c.in_ok-frame.ensures.out (ap acts c.deref.ensures.value)
    c.in_ok-begin.ensures c.in_ok-body.ensures refl c.in_ok-end.ensures c.in_ok-rest.ensures in
    rw is c.two_done-2.ensures
