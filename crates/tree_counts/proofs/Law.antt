-- A tally of a run has the run's output and its end.
use Rattle.std.proofs.Common.{◌≡◌, ℕ, zero, suc, List, ◌∷◌, Bool, true, false, Option, Some, None, refl, ap}
use Rattle.gg_base.specs.Runs.{Outcome}
use Rattle.tree_core.specs.declared.program.TreeProgram.{TreeProgram}
use Rattle.tree_core.specs.Trees.{grown}
use Rattle.tree_meaning.specs.State.{Next, over, tree_at}
use Rattle.tree_meaning.specs.Steps.{Step, tree_step, next, written}
use Rattle.tree_meaning.specs.Meaning.{run, first_at, first_written, carried}
use Rattle.tree_counts.specs.Counted.{is_counted, with_count, tally, TalliesAreRuns}

abbrev Alike : Outcome → Outcome → Type 0
Alike a b = (a.output ≡ b.output) × (a.end ≡ b.end)

alike_count : (b : Bool) (o p : Outcome) → Alike o p → Alike (with_count b o) p
alike_count true o p h = h
alike_count false o p h = h

alike_written : (w : Option ℕ) (o p : Outcome) → Alike o p → Alike (first_written w o) (first_written w p)
alike_written None o p h = h
alike_written (Some b) o p h = (ap (λ (l : List ℕ). b ∷ l) h.0, h.1)

pub tally_tells : (program : TreeProgram) (n : ℕ) (x : Next) → Alike (tally program n x) (run program n x)
tally_tells program n (over e) = (refl, refl)
tally_tells program zero (tree_at w s) = (refl, refl)
tally_tells program (suc n) (tree_at w s) =
    let st : Step = tree_step program s (grown w) in
    alike_count (is_counted st) (carried (tally program n) st) (carried (run program n) st)
    (alike_written (written st) (tally program n (next st)) (run program n (next st)) (tally_tells program n (next st)))

pub tallies_are_runs : TalliesAreRuns
tallies_are_runs program input n = tally_tells program n (first_at program input)
