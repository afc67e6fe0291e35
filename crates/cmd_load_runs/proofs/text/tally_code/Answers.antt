use Rattle.std.proofs.Common.{◌≡◌, [], IfOk, subst}
use Rattle.gg_base.specs.Runs.{Runs}
use Rattle.vax_machine.specs.View.{state}
use Rattle.cmd_load_runs.specs.Tallies.{outcome_of}
use Rattle.cmd_load_runs.proofs.text.tally_code.Goals as goal

pub returns-in-Ok : goal.returns-in-Ok
returns-in-Ok c =
    subst (λ (r : Runs). IfOk c.tally_machine.result (λ t. outcome_of t ≡ r c.args.count))
    (c.loaded_machine_runs_so.ensures c.args.code.now [] (state c.in-Ok.machine) c.in-Ok.ensures.1) c.tally_machine.ensures
