-- The runs of two codes whose places correspond.
use Rattle.std.proofs.Common.{◌≡◌, ℕ, zero, suc, List, [], Option, Some, None, Result, Ok, Err, refl, sym, ap, subst, ◌∙◌}
use Rattle.gg_base.specs.Follows.{Says}
use Rattle.vax_core.specs.declared.code.Code.{Code}
use Rattle.vax_core.specs.First.{main_name}
use Rattle.vax_machine.specs.declared.turn.Stop.{Stop}
use Rattle.vax_machine.specs.State.{State, cleared}
use Rattle.vax_machine.specs.Labels.{label_place}
use Rattle.vax_machine.specs.Calls.{called}
use Rattle.vax_machine.specs.Step.{Next, Stops, next_where, step_of}
use Rattle.vax_machine.specs.Loading.{blank, begun, start}
use Rattle.vax_machine.specs.Running.{behind, steps, state_run, run}
use Rattle.vax_machine_lists.specs.Sound.{AllBelow}
use Rattle.vax_alike.specs.Alike.{AlikeRuns}
use Rattle.vax_alike.specs.Corresponding.{Standing, Correspond}
use Rattle.vax_alike.specs.Laws.{CorrespondingRunsAreAlike}
use Rattle.vax_alike.proofs.Sharing.{covered}
use Rattle.vax_alike.proofs.Simulating.{told, retold}
use Rattle.vax_alike.proofs.Calling.{DoneState, called_done}
use Rattle.vax_alike.proofs.Matching.{S, moves}

-- machines that are over say the same
over_step : (m : State) (e : Stop) → m.over ≡ Some e → step_of m ≡ Stops e
over_step m e h = ap (λ (o : Option Stop). next_where o m) h

over_same : (m n : State) (e : Stop) → m.over ≡ Some e → n.over ≡ Some e → (k : ℕ) → Says (state_run n) (steps k m).output (steps k m).end
over_same m n e h g zero = (zero, refl, refl)
over_same m n e h g (suc k) = (
  suc k,
  ap (λ (z : Next). (behind z (steps k)).output) (over_step n e g ∙ sym (over_step m e h)),
  ap (λ (z : Next). (behind z (steps k)).end) (over_step n e g ∙ sym (over_step m e h)),
)

module _ (At : Standing) (Reads : ℕ → Type 0) (Ready : State → Type 0) (c d : Code) (corr : Correspond c d At Reads Ready) (input : List ℕ) (bytes : AllBelow 256 input) where
  -- the second code, over the first's data area
  abbrev other : Code
  other = record c { items = d.items }

  other_is : other ≡ d
  other_is = ap (λ (a : _). record d { area = a }) (sym corr.area)

  abbrev alone : Result State Stop
  alone = called (blank c input) 0 (label_place c.items main_name) None

  both_stand : (k : ℕ) (m n : State) → S c d At Reads Ready corr k m n → AlikeRuns (state_run m) (state_run n)
  both_stand k m n s = record {
    ahead = covered (state_run m) (state_run n) (λ i. told (S c d At Reads Ready corr) (moves c d At Reads Ready corr) i k m n s);
    back = covered (state_run n) (state_run m) (λ i. retold (S c d At Reads Ready corr) (moves c d At Reads Ready corr) i k m n s);
  }

  both_over : (m n : State) (e : Stop) → m.over ≡ Some e → n.over ≡ Some e → AlikeRuns (state_run m) (state_run n)
  both_over m n e h g = record { ahead = covered (state_run m) (state_run n) (over_same m n e h g); back = covered (state_run n) (state_run m) (over_same n m e g h) }

  alike_by : (r s : Result State Stop) → r ≡ alone → DoneState c.items d.items At Reads r s → AlikeRuns (state_run (begun (blank c input) r)) (state_run (begun (blank other input) s))
  alike_by (Ok m) s e h =
      let here : start c input ≡ m = ap (begun (blank c input)) (sym e) in
      let ready : Ready m = subst (λ (x : State). x.over ≡ None → Ready x) here (corr.begins input bytes) h.2.1.going in
      subst (λ (t : Result State Stop). AlikeRuns (state_run m) (state_run (begun (blank other input) t))) (sym h.1) (both_stand h.2.0 m h.0 (h.2.1, ready))
  alike_by (Err x) s e h = subst (λ (t : Result State Stop). AlikeRuns (state_run (begun (blank c input) (Err x))) (state_run (begun (blank other input) t))) (sym h) (both_over _ _ x refl refl)

  runs_alike : AlikeRuns (run c input) (run d input)
  runs_alike =
      subst (λ (x : Code). AlikeRuns (run c input) (run x input)) other_is
      (alike_by alone (called (blank other input) 0 (label_place d.items main_name) None) refl
      (called_done c.items d.items At Reads 0 0 [] [] cleared cleared tt (label_place c.items main_name) (label_place d.items main_name)
      (corr.enters main_name corr.main) None None tt (blank c input) refl 0))

pub corresponding_runs_are_alike : CorrespondingRunsAreAlike
corresponding_runs_are_alike At Reads Ready c d corr input bytes = runs_alike At Reads Ready c d corr input bytes
