-- What is known of each state of a run of a code whose functions name only registers of their masks.
use Rattle.std.proofs.Common.{◌≡◌, ℕ, true}
use Rattle.vax_pairs.specs.vax_core.specs.declared.code.Code.{Code}
use Rattle.vax_pairs.specs.vax_core.specs.Valid.{is_code}
use Rattle.vax_pairs.specs.vax_machine.specs.State.{State}
use Rattle.vax_pairs.specs.vax_machine.specs.Step.{Next, Goes, Writes, Stops, step_of}
use Rattle.vax_pairs.specs.vax_machine.specs.Loading.{Loads}
use Rattle.vax_pairs.specs.vax_machine_lists.specs.Sound.{IsRunning, Behind}
use Rattle.vax_pairs.specs.Piecewise.{Invariant}
use Rattle.vax_pairs.specs.Functions.{Functions, KeepsRegisters}
use Rattle.vax_pairs.specs.Shown.{Knows}
use Rattle.vax_pairs_checked.proofs.Functioning.{functions_keep_registers, functions_are_steady}
use Rattle.vax_pairs_checked.proofs.Laying.{steps_keep_layout, start_has_layout}

both_behind : (A B : State → Type 0) (x : Next) → Behind A x → Behind B x → Behind (λ n. A n × B n) x
both_behind A B (Goes n) h g = (h, g)
both_behind A B (Writes b n) h g = (h, g)
both_behind A B (Stops e) h g = tt

-- what holds of each state
abbrev pub IsReady : ((mask place : ℕ) → Type 0) → Code → State → Type 0
IsReady In c m = KeepsRegisters In c.items m × (m.layout ≡ c.area)

module _ (In : (mask place : ℕ) → Type 0) (c : Code) (functions : Functions c.items In) (valid : is_code c ≡ true) (loads : Loads c) where
  pub functions_invariant : Invariant c (IsReady In c)
  functions_invariant = record {
    begins = λ input bytes over. ((functions_keep_registers In c functions valid loads).begins input bytes over, start_has_layout c input);
    goes_on = λ m h. both_behind (KeepsRegisters In c.items) (λ n. n.layout ≡ c.area) (step_of m) ((functions_keep_registers In c functions valid loads).goes_on m h.0)
        (steps_keep_layout c.area m h.1);
  }

  pub functions_know : Knows c (IsReady In c) IsRunning
  functions_know = record {
    home = λ m h. record { items_are = h.0.items; layout_is = h.1 };
    longwords = λ m h. h.0.running.sound.longwords;
    steady = λ m h. functions_are_steady In c functions valid loads m h.0;
    fine = λ m h. h.0.running;
  }
