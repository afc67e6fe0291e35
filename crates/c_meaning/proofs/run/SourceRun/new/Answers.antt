use Rattle.std.proofs.Common.{ap}
use Rattle.gg_base.specs.Runs.{Runs}
use Rattle.c_meaning.specs.Turns.{answers}
use Rattle.c_program.specs.Programs.{program}
use Rattle.c_meaning.proofs.Ends.{one_end}
use Rattle.c_meaning.proofs.Unbroken.{unbroken}
use Rattle.c_meaning.proofs.run.SourceRun.new.Goals as goal

pub returns-in_err-machine-clause-one_end : goal.returns-in_err-machine-clause-one_end
returns-in_err-machine-clause-one_end c = one_end (program c.args.program.now) c.args.input.now

pub returns-clause-one_end : goal.returns-clause-one_end
returns-clause-one_end c = one_end (program c.args.program.now) c.args.input.now

pub returns-in_err-machine-clause-unbroken : goal.returns-in_err-machine-clause-unbroken
returns-in_err-machine-clause-unbroken c = unbroken (program c.args.program.now) c.args.input.now

pub returns-clause-unbroken : goal.returns-clause-unbroken
returns-clause-unbroken c = unbroken (program c.args.program.now) c.args.input.now

pub returns-clause-answers : goal.returns-clause-answers
returns-clause-answers c = ap (λ (r : Runs). answers r c.args.n) c.in_ok-machine.ensures
