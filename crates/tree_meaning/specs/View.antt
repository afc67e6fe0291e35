-- What the parts of a machine mean.
use Rattle.std.specs.Prelude.{◌≡◌, ℕ, List, true, false, Option, Some, None, map, reverse, take, drop, length, slice_get, ◌∷◌}
use Rattle.gg_base.specs.declared.run.End.TheVariants as ends
use Rattle.gg_base.specs.declared.run.SourceTurn.{SourceTurn}
use Rattle.gg_base.specs.declared.run.SourceTurn.TheVariants as turns
use Rattle.gg_base.specs.Turns.{Turns, end_of, turn_of}
use Rattle.tree_core.specs.declared.tree.Leaf.{Leaf}
use Rattle.tree_core.specs.declared.program.Object.{Object}
use Rattle.tree_core.specs.declared.program.TreeProgram.{TreeProgram}
use Rattle.tree_core.specs.Grammar.{kids}
use Rattle.tree_meaning.specs.declared.value.Meaning.{Meaning}
use Rattle.tree_meaning.specs.declared.frame.Frame.{Frame}
use Rattle.tree_meaning.specs.declared.machine.Machine.{Machine}
use Rattle.tree_meaning.specs.declared.progress.Progress.{Progress}
use Rattle.tree_meaning.specs.declared.progress.Progress.TheVariants as progress
use Rattle.tree_meaning.specs.declared.run.Stage.{Stage}
use Rattle.tree_meaning.specs.declared.run.Stage.TheVariants as stages
use Rattle.tree_meaning.specs.Values.{Sight, leaf_means}
use Rattle.tree_meaning.specs.State.{Activation, State, Next, over, tree_at, arrived}
use Rattle.tree_meaning.specs.Deeds.{Deed}
use Rattle.tree_meaning.specs.Steps.{Step, deed_step, next}
use Rattle.tree_meaning.specs.Turns.{turn, turns_at, still}

-- a local that was written has its value
abbrev pub joined : Option (Option ℕ) → Option ℕ
joined None = None
joined (Some o) = o

abbrev pub written : List (Option ℕ) → ℕ → Option ℕ
written locals n = joined (slice_get locals n)

abbrev pub activation : Frame → Activation
activation f = record {
  code = f.code.now;
  items = f.rest.now;
  locals = written f.locals.items;
  arguments = f.arguments.items;
  pushed = reverse f.pushed.items;
  result = f.result;
}

abbrev pub state : Machine → State
state m = record {
  running = activation m.running;
  callers = map activation (reverse m.callers.items);
  area = m.area.items;
  input = m.input.now;
}

-- what is answered to how the run goes on
abbrev pub turn_by : Progress → SourceTurn
turn_by progress.Goes = turns.Going
turn_by (progress.Wrote b) = turns.Wrote b
turn_by (progress.Ends e) = turn_of e

-- where the run comes to: its end, or the next tree
abbrev pub place_by : Progress → State → Next
place_by progress.Goes s = arrived s
place_by (progress.Wrote b) s = arrived s
place_by (progress.Ends e) s = over e

-- the stage behind it: over, or as it was
abbrev pub stage_by : Progress → Stage → Stage
stage_by progress.Goes g = g
stage_by (progress.Wrote b) g = g
stage_by (progress.Ends e) g = stages.Over e

-- what a run still has to do; of one that failed it is not said
abbrev pub turns_of : Stage → ℕ → ℕ → Turns
turns_of (stages.Going m) left taken = turns_at m.program.now (arrived (state m)) left taken
turns_of (stages.Over e) left taken = still (turn_of e) (end_of e) taken false
turns_of stages.Spent left taken = still turns.Spent ends.Spent taken false
turns_of stages.Failed left taken = still turns.Spent ends.Spent taken true

-- the machine has done a step of the program, and it is told how the run goes on
abbrev pub StepsBy : TreeProgram → Step → Progress → Machine → Type 0
StepsBy program st done new = (turn_by done ≡ turn st) × (place_by done (state new) ≡ next st) × (new.program.now ≡ program)

-- the machine has done a deed in its state
abbrev pub Does : Machine → Deed → Progress → Machine → Type 0
Does old d done new = StepsBy old.program.now (deed_step old.program.now (state old) d) done new

-- the machine has come to a tree
abbrev pub Arrives : Machine → List Leaf → Machine → Type 0
Arrives old w new = (arrived (state old) ≡ tree_at w (state new)) × (new.program.now ≡ old.program.now)

-- what the first kids stand for, of so many
abbrev pub kid_at : List Meaning → ℕ → ℕ → Option Meaning
kid_at ms count i = slice_get (take count ms) i

-- one more leaf is read, from the right
abbrev pub with_leaf : List Object → Sight → Leaf → List Meaning → List Meaning
with_leaf objects s l ms = leaf_means objects s l (kid_at ms (length (kids l.tok)) 0) (kid_at ms (length (kids l.tok)) 1) ∷ drop
    (length (kids l.tok)) ms
