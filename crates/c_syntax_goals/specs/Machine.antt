-- The run of a text: what is still to be read, one token at a time.
use Rattle.std.specs.Prelude.{ℕ, suc, ◌+◌, List, [], ◌∷◌, length, Result, Ok, Err, Bool, if◌then◌else◌}
use Rattle.c_syntax_goals.specs.declared.fault.Fault.{Fault}
use Rattle.c_syntax_goals.specs.declared.fault.Fault.TheVariants.{NotHere, TooDeep}
use Rattle.c_phrases.specs.Classes.{Placed, class_of}
use Rattle.c_phrases.specs.Units.{AUnit}
use Rattle.c_syntax_goals.specs.Goals.{Stack, Done, Want, Step, Takes, Opens, Finishes, Refuses, Turn, Steps, Passes}
use Rattle.c_syntax_goals.specs.Turns.{turn}

-- what is to be read behind the token, and at which level
pub data Next : Type 0 where
  Goes : (s : Stack) (n : ℕ) → Next
  Ends : (s : Stack) → Next
  Deep : Next
  Stuck : Next

abbrev pub closing : Stack → Result AUnit Fault
closing (Done u) = Ok u
closing (Want g κ) = Err (NotHere 0)

abbrev pub at_end : Stack → List Placed → Result AUnit Fault
at_end s [] = closing s
at_end s (t ∷ ts) = Err (NotHere (length (t ∷ ts)))

abbrev pub on : Next → List Placed → (Stack → ℕ → Result AUnit Fault) → Result AUnit Fault
on (Goes s n) ts κ = κ s n
on (Ends s) ts κ = at_end s ts
on Deep ts κ = Err (TooDeep (suc (length ts)))
on Stuck ts κ = Err (NotHere (suc (length ts)))

-- which levels may be opened
module _ (L : ℕ → Bool) where
  abbrev pub made : Step → ℕ → Next
  made (Takes s) n = Goes s n
  made (Opens k s) n = if L (n + k) then Goes s (n + k) else Deep
  made (Finishes s) n = Ends s
  made Refuses n = Stuck

  abbrev pub pick : {V : Type 0} → Turn V → ℕ → (ℕ → V → Next) → Next
  pick (Steps x) n κ = made x n
  pick (Passes m v) n κ = κ m v

  abbrev pub next : Stack → Placed → ℕ → Next
  next (Done u) t n = Stuck
  next (Want g κ) t n = pick (turn g (class_of t.kind) t n κ) n (λ m v. next (κ v) t m)

  -- The unit of a text, or its fault, where this is to be read at this level. A fault names the number of tokens left, from its own on.
  abbrev pub run : Stack → ℕ → List Placed → Result AUnit Fault
  run s n [] = Err (NotHere 0)
  run s n (t ∷ ts) = on (next s t n) ts (λ r m. run r m ts)
