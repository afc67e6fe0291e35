-- No run of a code is wild or deep.
use Rattle.std.proofs.Common.{◌≡◌, ℕ, zero, suc}
use Rattle.gg_base.specs.declared.run.End.TheVariants as ends
use Rattle.l32_machine.specs.declared.turn.Stop32.{Stop32}
use Rattle.l32_machine.specs.declared.turn.Stop32.TheVariants as stops
use Rattle.l32_machine.specs.State.{State}
use Rattle.l32_machine.specs.Step.{Next, Goes, Writes, Stops, step_of}
use Rattle.l32_machine.specs.Running.{end_of, behind, steps}

not_lost : (e : Stop32) → (end_of e ≡ ends.Wild → ⊥) × (end_of e ≡ ends.Deep → ⊥)
not_lost (stops.Ended v) = (λ h. absurd cc, λ h. absurd cc)
not_lost stops.Trapped = (λ h. absurd cc, λ h. absurd cc)
not_lost (stops.Broken k) = (λ h. absurd cc, λ h. absurd cc)

behind_not_lost : (n : ℕ) (x : Next) → ((k : State) → ((steps n k).end ≡ ends.Wild → ⊥) × ((steps n k).end ≡ ends.Deep → ⊥)) → ((behind x (steps n)).end ≡ ends.Wild → ⊥)
    × ((behind x (steps n)).end ≡ ends.Deep → ⊥)
behind_not_lost n (Goes k) h = h k
behind_not_lost n (Writes b k) h = h k
behind_not_lost n (Stops e) h = not_lost e

pub steps_not_lost : (n : ℕ) (m : State) → ((steps n m).end ≡ ends.Wild → ⊥) × ((steps n m).end ≡ ends.Deep → ⊥)
steps_not_lost zero m = (λ h. absurd cc, λ h. absurd cc)
steps_not_lost (suc n) m = behind_not_lost n (step_of m) (steps_not_lost n)
