-- What holds of each element of lists, and of what comes of a step.
use Rattle.std.proofs.Common.{ℕ, zero, suc, List, [], ◌∷◌, sym, subst, take, drop}
use Rattle.std.specs.Prelude.{reverse, slice_set}
use Rattle.std.specs.List.{AllByRecursion as All}
use Rattle.std.proofs.lemmas.Grind.{reverse_onto}
use Rattle.gg_base.proofs.Facts.{all_append}
use Rattle.sel_parse_selected.specs.Desk.{Outcome, Full, Stuck, Done, bind}

pub all_take : {X : Type 0} (P : X → Type 0) (n : ℕ) (xs : List X) → All P xs → All P (take n xs)
all_take P zero xs h = tt
all_take P (suc n) [] h = tt
all_take P (suc n) (x ∷ xs) h = (h.0, all_take P n xs h.1)

pub all_drop : {X : Type 0} (P : X → Type 0) (n : ℕ) (xs : List X) → All P xs → All P (drop n xs)
all_drop P zero xs h = h
all_drop P (suc n) [] h = tt
all_drop P (suc n) (x ∷ xs) h = all_drop P n xs h.1

pub all_reverse : {X : Type 0} (P : X → Type 0) (xs : List X) → All P xs → All P (reverse xs)
all_reverse P [] h = tt
all_reverse P (x ∷ xs) h = subst (All P) (sym (reverse_onto xs x [])) (all_append P (reverse xs) (x ∷ []) (all_reverse P xs h.1) (h.0, tt))

pub all_set : {X : Type 0} (P : X → Type 0) (xs : List X) (i : ℕ) (y : X) → All P xs → P y → All P (slice_set xs i y)
all_set P [] i y h k = tt
all_set P (x ∷ xs) zero y h k = (k, h.1)
all_set P (x ∷ xs) (suc i) y h k = (h.0, all_set P xs i y h.1 k)

-- it holds of what is done
abbrev pub Each : {X : Type 0} → (X → Type 0) → Outcome X → Type 0
Each P Full = Unit {0}
Each P Stuck = Unit {0}
Each P (Done x) = P x

pub each_bind : {X Y : Type 0} (P : X → Type 0) (Q : Y → Type 0) (o : Outcome X) (go : X → Outcome Y) → Each P o → ((x : X) → P x → Each Q (go x)) → Each Q (bind o go)
each_bind P Q Full go h k = tt
each_bind P Q Stuck go h k = tt
each_bind P Q (Done x) go h k = k x h

pub each_any : {X : Type 0} (o : Outcome X) → Each (λ (x : X). Unit {0}) o
each_any Full = tt
each_any Stuck = tt
each_any (Done x) = tt
