use Rattle.tree_meaning.specs.Meaning.{tree_run}
use Rattle.tree_meaning.proofs.Law.{tree_run_lasts}
use Rattle.tree_meaning.proofs.run.TreeRun.new.Goals as goal

pub returns-in_err-machine-clause-one_end : goal.returns-in_err-machine-clause-one_end
returns-in_err-machine-clause-one_end c =
    c.lasting_is_enough.ensures (tree_run c.args.program.now c.args.input.now) (tree_run_lasts c.args.program.now c.args.input.now)

pub returns-clause-one_end : goal.returns-clause-one_end
returns-clause-one_end c =
    c.lasting_is_enough.ensures (tree_run c.args.program.now c.args.input.now) (tree_run_lasts c.args.program.now c.args.input.now)
