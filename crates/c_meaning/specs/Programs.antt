-- What a program does, with at most so many counted turns of loops and calls.
use Rattle.std.specs.Prelude.{ℕ, zero, suc, List, [], Option, Some, None}
use Rattle.std.specs.Prelude.{slice_get}
use Rattle.gg_base.specs.declared.run.End.TheVariants.{Ended, Wild, Spent}
use Rattle.gg_base.specs.Runs.{Runs, stop}
use Rattle.tree_core.specs.Area.{opening}
use Rattle.c_program.specs.Programs.{ARoutine, AProgram}
use Rattle.c_meaning.specs.State.{State}
use Rattle.c_meaning.specs.Values.{Behind, Next}
use Rattle.c_meaning.specs.Calls.{answer, begun, performed}
use Rattle.c_meaning.specs.Meaning.{task}

-- the tasks, where at most k of them are begun one within another
abbrev pub task_at : AProgram → ℕ → Next
task_at p zero t κ st = λ n. record { output = []; end = Spent; number = n }
task_at p (suc k) t κ st = task p (task_at p k) t κ st

-- what a task means: n counted turns and calls begin at most n tasks
abbrev pub means : AProgram → Next
means p t κ st n = task_at p (suc n) t κ st n

-- the value of `main` is that of the run
abbrev pub finished : Behind
finished w st = stop (Ended (answer w))

-- before `main` begins
abbrev pub at_first : AProgram → List ℕ → State
at_first p input = record {
  call = record { locals = []; parameters = []; block = None };
  area = opening p.objects;
  input = input;
  active = 0;
}

abbrev pub main_of : Option ARoutine → AProgram → List ℕ → Runs
main_of None p input = stop Wild
main_of (Some g) p input = performed p.objects (means p) g finished (begun g [] (at_first p input))

-- the meaning of a program on an input
abbrev pub source : AProgram → List ℕ → Runs
source p input = main_of (slice_get p.routines p.main) p input
