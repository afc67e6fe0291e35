-- Steps that lead from a state to another.
use Rattle.std.specs.Prelude.{◌≡◌, ℕ, zero, suc, ◌<◌, List, [], ◌∷◌}
use Rattle.vax_machine_lists.specs.vax_machine.specs.State.{State}
use Rattle.vax_machine_lists.specs.vax_machine.specs.Step.{Goes, Writes, step_of}

-- So many steps lead from a state to another, writing these bytes.
pub data Way (n : State) : State → List ℕ → ℕ → Type 0 where
  Stay : Way n n [] zero
  Going : (m x : State) (w : List ℕ) (k : ℕ) → step_of m ≡ Goes x → Way n x w k → Way n m w (suc k)
  Writing : (m x : State) (b : ℕ) (w : List ℕ) (k : ℕ) → step_of m ≡ Writes b x → Way n x w k → Way n m (b ∷ w) (suc k)

-- Both machines do a step, or the number falls.
pub data Nearer (i j l k : ℕ) : Type 0 where
  Forward : 0 < i → 0 < j → Nearer i j l k
  Lower : l < k → Nearer i j l k
