-- The machine does what the tree of a run on terms says, from a state for which the state on terms stands.
use Rattle.std.proofs.Common.{◌≡◌, ℕ, false, List, [], Option, refl, sym, subst}
use Rattle.vax_pairs.specs.vax_machine.specs.State.{State}
use Rattle.vax_pairs.specs.Ways.{Way, Stay}
use Rattle.vax_pairs.specs.TermStates.{TermState, dressed}
use Rattle.vax_pairs.specs.Trees.{Tree}
use Rattle.vax_pairs.specs.Shown.{StandsFor}
use Rattle.vax_pairs.specs.Laws.{TreesAreDone}
use Rattle.vax_pairs_law.proofs.Telling.{Does}
use Rattle.vax_pairs_law.proofs.Running.{run_does}

module _ (env : List ℕ) where
  dressed_is : (m : State) (s : TermState) → StandsFor env s m → dressed env m m.place s ≡ m
  dressed_is m s h i = record m { registers = h.registers i; conditions = h.conditions i }

  pub way_from : (m : State) (s : TermState) → StandsFor env s m → Way (dressed env m m.place s) m [] 0
  way_from m s h = subst (λ (y : State). Way y m [] 0) (sym (dressed_is m s h)) Stay

pub trees_are_done : TreesAreDone
trees_are_done is_cut fuel env m s t going scoped stands run =
    subst (λ (o : Option Tree). Does m.items m o env m []) run
    (run_does m.items m.layout is_cut m fuel false m.place env m s [] 0 (record { items_are = refl; layout_is = refl; going = going })
    scoped (way_from env m s stands) (λ e. absurd (cc)))
