-- What passes did in a call: where they lead, and how many changes each one made.
use Rattle.std.specs.Prelude.{◌≡◌, ℕ, ◌-◌, List, [], ◌∷◌, map}
use Rattle.vax_core.specs.declared.code.Code.{Code}
use Rattle.vax_passes.specs.Leads.{Leads, Rise}

-- by how much each number rose
abbrev pub rises : List ℕ → List ℕ → List ℕ
rises [] now = []
rises (b ∷ before) [] = []
rises (b ∷ before) (n ∷ now) = (n - b) ∷ rises before now

-- passes in a call: from which code they lead to which, and how many changes each one made, in order
pub record Passing : Type 1 where
  pub leads : Code → Code → Type 0
  pub changes : List ℕ

-- From one state of a list of passes to another. `wrote p n c d` says that the pass p makes d of c and has made n changes then, and
-- `made p` how many it has made so far.
abbrev pub passing : {P : Type 0} → (P → ℕ → Code → Code → Type 0) → (P → ℕ) → List P → List P → Passing
passing wrote made old new = record { leads = Leads wrote made old new; changes = rises (map made old) (map made new) }

-- They are the same passes in the same order, and no one's number of changes fell.
pub record AreKept {P V : Type 0} (vtable : P → V) (made : P → ℕ) (old new : List P) : Type 0 where
  pub same : map vtable new ≡ map vtable old
  pub rise : Rise made old new
