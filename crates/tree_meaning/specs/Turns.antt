-- The answers of a run of trees, one after another.
use Rattle.std.specs.Prelude.{◌≡◌, ℕ, zero, suc, ◌≤◌, List, [], ◌∷◌, Option, Some, None, Bool, false}
use Rattle.gg_base.specs.declared.run.End.{End}
use Rattle.gg_base.specs.declared.run.SourceTurn.{SourceTurn}
use Rattle.gg_base.specs.declared.run.SourceTurn.TheVariants as turns
use Rattle.gg_base.specs.Runs.{Remaining, AdvancesBy}
use Rattle.gg_base.specs.Turns.{Turns, counted_from, turn_of}
use Rattle.tree_core.specs.declared.program.TreeProgram.{TreeProgram}
use Rattle.tree_core.specs.Trees.{grown}
use Rattle.tree_meaning.specs.State.{Activation, Next, over, tree_at}
use Rattle.tree_meaning.specs.Steps.{Step, Goes, Serves, GoesTo, Enters, GoesBack, Ends, tree_step, next}
use Rattle.tree_meaning.specs.Meaning.{ended, run, first_at}

-- ---- what is answered to a step

abbrev pub byte_turn : Option ℕ → SourceTurn
byte_turn None = turns.Going
byte_turn (Some b) = turns.Wrote b

-- main's value ends the run, any other call's doesn't
abbrev pub return_turn : List Activation → ℕ → SourceTurn
return_turn [] v = turns.Ended v
return_turn (f ∷ fs) v = turns.Going

abbrev pub turn : Step → SourceTurn
turn (Goes s) = turns.Going
turn (Serves b s) = byte_turn b
turn (GoesTo label s) = turns.Going
turn (Enters g arguments s) = turns.Going
turn (GoesBack v s) = return_turn s.callers v
turn (Ends e) = turn_of e

-- Answers stand before others; behind an end that end is answered alone.
abbrev pub before : SourceTurn → List SourceTurn → List SourceTurn
before turns.Going more = turns.Going ∷ more
before (turns.Wrote b) more = turns.Wrote b ∷ more
before (turns.Ended v) more = turns.Ended v ∷ []
before turns.Trapped more = turns.Trapped ∷ []
before turns.Wild more = turns.Wild ∷ []
before turns.Deep more = turns.Deep ∷ []
before turns.Spent more = turns.Spent ∷ []

-- what is answered one after another, from where a run comes to on and with at most so many trees; the last one is that of the end
abbrev pub answers : TreeProgram → ℕ → Next → List SourceTurn
answers program n (over e) = turn_of e ∷ []
answers program zero (tree_at w s) = turns.Spent ∷ []
answers program (suc n) (tree_at w s) = before (turn (tree_step program s (grown w)))
    (answers program n (next (tree_step program s (grown w))))

abbrev pub tree_answers : TreeProgram → List ℕ → ℕ → List SourceTurn
tree_answers program input n = answers program n (first_at program input)

-- ---- what is still to come of it

-- of a run that goes on from there
abbrev pub turns_at : TreeProgram → Next → ℕ → ℕ → Turns
turns_at program x left taken =
    record {
      answers = answers program left x;
      remaining = record { outcome = counted_from taken (run program left x); taken = taken; failed = false };
    }

-- of one that stands still: its answer is given again and again
abbrev pub still : SourceTurn → End → ℕ → Bool → Turns
still t e taken failed =
    record {
      answers = t ∷ [];
      remaining = record { outcome = counted_from taken (ended e); taken = taken; failed = failed };
    }

-- the run goes on behind the answer
abbrev pub GoesOn : SourceTurn → Type 0
GoesOn turns.Going = Unit {0}
GoesOn (turns.Wrote b) = Unit {0}
GoesOn (turns.Ended s) = ⊥
GoesOn turns.Trapped = ⊥
GoesOn turns.Wild = ⊥
GoesOn turns.Deep = ⊥
GoesOn turns.Spent = ⊥

-- One tree begins at most, and it is counted then, whatever is answered: one does where the run goes on behind the
-- answer, and none where it came to its end before.
pub record AdvancesTrees (old : Remaining) (turn : SourceTurn) (new : Remaining) : Type 0 where
  pub trees : ℕ
  pub one_at_most : trees ≤ 1
  pub one : GoesOn turn → trees ≡ 1
  pub advances : AdvancesBy trees old turn new
