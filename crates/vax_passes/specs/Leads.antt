-- Passes in turn.
use Rattle.std.specs.Prelude.{◌≡◌, ◌≤◌, ℕ, true, List, [], ◌∷◌}
use Rattle.vax_core.specs.declared.code.Code.{Code}
use Rattle.vax_core.specs.Valid.{is_code}
use Rattle.vax_alike.specs.Alike.{Alike}

-- What a pass makes of a code, the pass having made so many changes before it and so many behind it: what the pass says of itself, and
-- what each pass owes.
pub record Wrote (own : Code → Code → Type 0) (before after : ℕ) (c d : Code) : Type 0 where
  pub says : own c d
  pub valid : is_code d ≡ true
  pub alike : Alike c d
  pub unchanged : after ≡ before → d ≡ c
  pub rises : before ≤ after

-- From a code the passes lead to another, each from the code of the one before it to its own; behind it each pass is the other list's.
-- `wrote p n c d` says that the pass p makes d of c and has made n changes then, `made q` how many q has made.
abbrev pub Leads : {P : Type 0} → (P → ℕ → Code → Code → Type 0) → (P → ℕ) → List P → List P → Code → Code → Type 0
Leads wrote made [] [] c d = d ≡ c
Leads wrote made [] (q ∷ qs) c d = ⊥
Leads wrote made (p ∷ ps) [] c d = ⊥
Leads wrote made (p ∷ ps) (q ∷ qs) c d = (e : Code) × Wrote (wrote p (made q)) (made p) (made q) c e × Leads wrote made ps qs e d

-- no pass's number of changes falls
abbrev pub Rise : {P : Type 0} → (P → ℕ) → List P → List P → Type 0
Rise made [] [] = Unit {0}
Rise made [] (q ∷ qs) = ⊥
Rise made (p ∷ ps) [] = ⊥
Rise made (p ∷ ps) (q ∷ qs) = (made p ≤ made q) × Rise made ps qs
