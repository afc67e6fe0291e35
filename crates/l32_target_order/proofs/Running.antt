-- Instructions are done one after another.
use Rattle.std.proofs.Common.{refl}
use Rattle.judging_laws.proofs.Joining.{run_on}
use Rattle.l32_target_meaning.specs.Running.{performed, run}
use Rattle.l32_target_order.specs.Laws.{InstructionsRun}

pub instructions_run : InstructionsRun
instructions_run = record {
  run_none = λ m. refl;
  run_on = run_on run performed (λ m. refl) (λ i is m. refl);
}
