use Rattle.std.proofs.Common.{[], refl}
use Rattle.std.proofs.Math.Logic.{∥∥₁_map}
use Rattle.c_meaning.specs.Programs.{source}
use Rattle.vax_machine.specs.Running.{run}
use Rattle.gg_load_program.specs.Program.{source_program}
use Rattle.gg_load_meaning.specs.Run.{source_outcome}
use Rattle.cmd_load.proofs.Joining.{few_enough}
use Rattle.cmd_load.proofs.laws.both_sides_end_alike.Goals as goal

pub returns-clause-comes : goal.returns-clause-comes
returns-clause-comes c = λ k. c.generated_source_runs.ensures.run k []

pub returns-clause-few : goal.returns-clause-few
returns-clause-few c = λ k low. few_enough (source_outcome k).number k (c.generated_source_runs.ensures.few k) low

pub returns-clause-one_end : goal.returns-clause-one_end
returns-clause-one_end c = λ code. c.run_has_one_end.ensures code []

pub returns-clause-alike : goal.returns-clause-alike
returns-clause-alike c = λ k code keeps.
    c.followers_end_alike.ensures (source (source_program k) []) (run code []) (source_outcome k) 0 (c.generated_source_runs.ensures.run k []) refl
    (∥∥₁_map keeps (λ h. h.follows [] tt)) (c.run_has_one_end.ensures code [])
