-- What is counted in a run of trees: its calls and its jumps backward.
use Rattle.std.specs.Prelude.{◌≡◌, ℕ, zero, suc, List, Bool, true, false, not}
use Rattle.std.specs.List.{list_any}
use Rattle.gg_base.specs.declared.run.End.TheVariants as ends
use Rattle.gg_base.specs.Runs.{Outcome, Runs, one_first}
use Rattle.gg_base.specs.Turns.{end_of}
use Rattle.tree_core.specs.declared.program.TreeItem.{TreeItem}
use Rattle.tree_core.specs.declared.program.TreeProgram.{TreeProgram}
use Rattle.tree_core.specs.Trees.{grown}
use Rattle.tree_meaning.specs.State.{is_label, Next, over, tree_at}
use Rattle.tree_meaning.specs.Steps.{Step, Goes, Serves, GoesTo, Enters, GoesBack, Ends, tree_step}
use Rattle.tree_meaning.specs.Meaning.{ended, To, carried, first_at, tree_run}

-- a label stands among items
abbrev pub is_ahead : List TreeItem → ℕ → Bool
is_ahead items label = list_any (λ (item : TreeItem). is_label label item) items

-- A call of a function is counted, and a jump backward: one to a label that does not stand among the items still to come.
abbrev pub is_counted : Step → Bool
is_counted (Goes s) = false
is_counted (Serves b s) = false
is_counted (GoesTo label s) = not (is_ahead s.running.items label)
is_counted (Enters g arguments s) = true
is_counted (GoesBack v s) = false
is_counted (Ends e) = false

-- one more is counted, or none
abbrev pub with_count : Bool → Outcome → Outcome
with_count true o = one_first o
with_count false o = o

-- a step that is counted, or not, and what comes behind it
abbrev pub tallied : To → Step → Outcome
tallied to st = with_count (is_counted st) (carried to st)

module _ (program : TreeProgram) where
  -- where a run comes to, with at most so many trees, of which only those are counted
  abbrev pub tally : ℕ → Next → Outcome
  tally n (over e) = ended (end_of e)
  tally zero (tree_at w s) = ended ends.Spent
  tally (suc n) (tree_at w s) = tallied (tally n) (tree_step program s (grown w))

  abbrev pub tallies : Next → Runs
  tallies x n = tally n x

-- the run of a tree program, whose number is how many calls and jumps backward it makes
abbrev pub tree_tally : TreeProgram → List ℕ → Runs
tree_tally program input = tallies program (first_at program input)

-- It has the output and the end of the run.
abbrev pub TalliesAreRuns : Type 0
TalliesAreRuns =
    (program : TreeProgram) (input : List ℕ) (n : ℕ) → ((tree_tally program input n).output ≡ (tree_run program input n).output)
    × ((tree_tally program input n).end ≡ (tree_run program input n).end)
