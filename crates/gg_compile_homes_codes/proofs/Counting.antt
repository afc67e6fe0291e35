-- Programs whose functions want other locals count alike.
use Rattle.std.proofs.Common.{◌≡◌, ℕ, zero, suc, List, refl, ap, ◌∙◌}
use Rattle.gg_base.specs.Runs.{Outcome}
use Rattle.tree_core.specs.declared.program.TreeProgram.{TreeProgram}
use Rattle.tree_core.specs.Trees.{grown}
use Rattle.gg_compile_homes.specs.tree_homes.specs.tree_meaning.specs.State.{Next, over, tree_at}
use Rattle.gg_compile_homes.specs.tree_homes.specs.tree_meaning.specs.Steps.{tree_step, next, written}
use Rattle.gg_compile_homes.specs.tree_homes.specs.tree_meaning.specs.Meaning.{first_written, first_at}
use Rattle.gg_compile_homes.specs.tree_homes.specs.Rehoming.{IsRehomed, anything}
use Rattle.gg_compile_homes.specs.tree_homes.proofs.Running.{step_same, first_same}
use Rattle.tree_counts.specs.Counted.{is_counted, with_count, tallied, tally, tree_tally}

module _ (p q : TreeProgram) (r : IsRehomed anything p q) where
  tally_same : (n : ℕ) (x : Next) → tally q n x ≡ tally p n x
  tally_same n (over e) = refl
  tally_same zero (tree_at w s) = refl
  tally_same (suc n) (tree_at w s) =
      ap (λ (o : Outcome). with_count (is_counted (tree_step q s (grown w))) (first_written (written (tree_step q s (grown w))) o)) (tally_same n (next (tree_step q s (grown w))))
      ∙ step_same anything p q r (tallied (tally p n)) (λ f v args t. refl) s (grown w)

  pub tallies_same : (input : List ℕ) (n : ℕ) → tree_tally q input n ≡ tree_tally p input n
  tallies_same input n = tally_same n (first_at q input) ∙ ap (tally p n) (first_same anything p q r input)
