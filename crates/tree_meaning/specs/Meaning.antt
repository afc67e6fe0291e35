-- What a tree program does, with at most so many trees: one step after another.
use Rattle.std.specs.Prelude.{ℕ, zero, suc, List, [], Option, Some, None, codes}
use Rattle.std.specs.List.{find}
use Rattle.std.specs.Str.{bytes_eq}
use Rattle.gg_base.specs.declared.run.End.{End}
use Rattle.gg_base.specs.declared.run.End.TheVariants as ends
use Rattle.gg_base.specs.Runs.{Outcome, Runs, byte_first, one_first}
use Rattle.gg_base.specs.Turns.{end_of}
use Rattle.tree_core.specs.declared.program.TreeFn.{TreeFn}
use Rattle.tree_core.specs.declared.program.TreeProgram.{TreeProgram}
use Rattle.tree_core.specs.Trees.{grown}
use Rattle.tree_core.specs.Area.{opening}
use Rattle.gg_base.specs.declared.run.Finish.TheVariants as finish
use Rattle.tree_meaning.specs.State.{begun, Next, over, tree_at, arrived}
use Rattle.tree_meaning.specs.Steps.{Step, tree_step, next, written}

-- the run ends here
abbrev pub ended : End → Outcome
ended e = record { output = []; end = e; number = 0 }

-- how a run goes on from where it comes to
abbrev pub To : Type 0
To = Next → Outcome

-- a byte comes first, if one was written
abbrev pub first_written : Option ℕ → Outcome → Outcome
first_written None o = o
first_written (Some b) o = byte_first b o

-- a step, and the run behind it
abbrev pub carried : To → Step → Outcome
carried to st = first_written (written st) (to (next st))

module _ (program : TreeProgram) where
  -- where a run comes to, with at most so many trees: each counts one when it begins
  abbrev pub run : ℕ → Next → Outcome
  run n (over e) = ended (end_of e)
  run zero (tree_at w s) = ended ends.Spent
  run (suc n) (tree_at w s) = one_first (carried (run n) (tree_step program s (grown w)))

  abbrev pub runs : Next → Runs
  runs x n = run n x

  -- where a run begins: in the function called main
  abbrev pub main_at : Option TreeFn → List ℕ → Next
  main_at None input = over finish.Wild
  main_at (Some g) input = arrived (record { running = begun g []; callers = []; area = opening program.objects; input = input })

-- the function called main
abbrev pub main_of : List TreeFn → Option TreeFn
main_of functions = find (λ f. bytes_eq f.name (codes "main")) functions

abbrev pub first_at : TreeProgram → List ℕ → Next
first_at program input = main_at program (main_of program.functions) input

-- what a tree program does with an input
abbrev pub tree_run : TreeProgram → List ℕ → Runs
tree_run program input = runs program (first_at program input)
