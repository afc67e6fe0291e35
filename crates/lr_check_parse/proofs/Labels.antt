-- Stacks whose symbols carry answers.
use Rattle.std.proofs.Common.{◌≡◌, ℕ, zero, suc, ◌<◌, List, [], ◌∷◌, Bool, false, length, drop, refl, ap, arith}
use Rattle.std.specs.Prelude.{slice_index_or}
use Rattle.md_reader.specs.declared.types.Sym.{Sym}
use Rattle.lr_check.specs.Parse.{Part, symbols, answers_at, used_at}
use Rattle.lr_check_parse.specs.Claims.{labelled}

abbrev pub answered_by : ℕ → Bool → (ℕ → List Bool) → ℕ → List Bool
answered_by zero b f zero = b ∷ f 0
answered_by zero b f (suc i) = f (suc i)
answered_by (suc d) b f zero = f 0
answered_by (suc d) b f (suc i) = answered_by d b (λ j. f (suc j)) i

pub symbols_labelled : (a : List Sym) (f : ℕ → List Bool) → symbols (labelled a f) ≡ a
symbols_labelled [] f = refl
symbols_labelled (X ∷ a) f = ap (λ (t : List Sym). X ∷ t) (symbols_labelled a (λ i. f (suc i)))

-- the question takes the answer that was put in front
pub used_labelled : (d : ℕ) (b : Bool) (a : List Sym) (f : ℕ → List Bool) → used_at d (labelled a (answered_by d b f)) ≡ labelled a f
used_labelled zero b [] f = refl
used_labelled (suc d) b [] f = refl
used_labelled zero b (X ∷ a) f = refl
used_labelled (suc d) b (X ∷ a) f = ap (λ (t : List Part). record { symbol = X; answers = f 0 } ∷ t) (used_labelled d b a (λ i. f (suc i)))

pub answer_labelled : (d : ℕ) (b : Bool) (a : List Sym) (f : ℕ → List Bool) → d < length a → slice_index_or (answers_at (labelled a (answered_by d b f)) d) 0 false ≡ b
answer_labelled d b [] f lt = absurd (omega (arith, lt))
answer_labelled zero b (X ∷ a) f lt = refl
answer_labelled (suc d) b (X ∷ a) f lt = answer_labelled d b a (λ i. f (suc i)) (omega (arith, lt))

-- no answers for the symbols above a depth
abbrev pub above : ℕ → (ℕ → List Bool) → ℕ → List Bool
above zero f i = f i
above (suc d) f zero = []
above (suc d) f (suc i) = above d f i

pub answers_above : (d : ℕ) (a : List Sym) (f : ℕ → List Bool) → d < length a → answers_at (labelled a (above d f)) d ≡ f 0
answers_above d [] f lt = absurd (omega (arith, lt))
answers_above zero (X ∷ a) f lt = refl
answers_above (suc d) (X ∷ a) f lt = answers_above d a f (omega (arith, lt))

pub drop_above : (d : ℕ) (a : List Sym) (f : ℕ → List Bool) → d < length a → drop (suc d) (labelled a (above d f)) ≡ labelled (drop (suc d) a) (λ i. f (suc i))
drop_above d [] f lt = absurd (omega (arith, lt))
drop_above zero (X ∷ a) f lt = refl
drop_above (suc d) (X ∷ a) f lt = drop_above d a f (omega (arith, lt))
