-- What is true of each element, and how names are counted.
use Rattle.std.proofs.Common.{◌≡◌, ℕ, zero, suc, ◌+◌, ◌<◌, ◌≤◌, List, [], ◌∷◌, length, get_or, Bool, true, false, cond, refl, sym, ap, subst, arith}
use Rattle.std.specs.Prelude.{◌↔◌, IsTrue}
use Rattle.std.specs.Bool.{MatchBool}
use Rattle.std.specs.List.{All, AllWithin, HoldsAt}
use Rattle.std.specs.Str.{bytes_eq}
use Rattle.std.proofs.lemmas.Iterator.Search.{true_from_All}
use Rattle.std.proofs.lemmas.Slice.Eq.{bytes_eq-Decides}
use Rattle.tree_core.specs.declared.program.TreeFn.{TreeFn}
use Rattle.tree_core.specs.Valid.{named, NamesDiffer}

-- `all` of a test that decides P
pub all_decided : {X : Type 0} (P : X → Type 0) (r : Bool) (xs : List X) → MatchBool r (AllWithin P xs 0 (length xs)) ((k : ℕ) × (k < length xs) × HoldsAt (λ x. P x → ⊥) xs k) → IsTrue r ↔ All P xs
all_decided {X} P r xs m = (
  (λ t k d lt. subst (λ (b : Bool). MatchBool b (AllWithin P xs 0 (length xs)) ((i : ℕ) × (i < length xs) × HoldsAt (λ x. P x → ⊥) xs i)) t m k d (omega arith) lt),
  true_from_All P (λ (x : X). P x → ⊥) r xs (λ x p q. q p) m,
)

more : (b : Bool) (n : ℕ) → 1 ≤ n → 1 ≤ cond b 1 0 + n
more true n le = omega arith
more false n le = omega (arith, le)

-- a function's own name is counted
pub named_once : (fs : List TreeFn) (k : ℕ) (f : TreeFn) → k < length fs → f ≡ get_or fs k f → 1 ≤ named f.name fs
named_once [] k f lt e = absurd (omega arith)
named_once (g ∷ fs) zero f lt e =
    let same : bytes_eq g.name f.name ≡ true = (bytes_eq-Decides g.name f.name).1 (ap (λ (x : TreeFn). x.name) (sym e)) in
    let one : named f.name (g ∷ fs) ≡ 1 + named f.name fs = ap (λ (b : Bool). cond b 1 0 + named f.name fs) same in
    omega (arith, one)
named_once (g ∷ fs) (suc k) f lt e = more (bytes_eq g.name f.name) (named f.name fs) (named_once fs k f (omega arith) e)

-- a name that is counted is some function's
pub record IsNamed (name : List ℕ) (fs : List TreeFn) : Type 0 where
  pub place : ℕ
  pub within : place < length fs
  pub so : (d : TreeFn) → (get_or fs place d).name ≡ name

named_there : (name : List ℕ) (f : TreeFn) (fs : List TreeFn) → (0 < named name fs → IsNamed name fs) → (b : Bool) → bytes_eq f.name name ≡ b → 0 < cond b 1 0 + named name fs → IsNamed name (f ∷ fs)
named_there name f fs rest true e lt = record { place = 0; within = omega arith; so = λ d. (bytes_eq-Decides f.name name).0 e }
named_there name f fs rest false e lt = later (rest (omega (arith, lt)))
  where
    later : IsNamed name fs → IsNamed name (f ∷ fs)
    later h = record { place = suc h.place; within = omega (arith, h.within); so = h.so }

pub is_named : (name : List ℕ) (fs : List TreeFn) → 0 < named name fs → IsNamed name fs
is_named name [] lt = absurd (omega arith)
is_named name (f ∷ fs) lt = named_there name f fs (λ q. is_named name fs q) (bytes_eq f.name name) refl lt

pub names_clash : (fs : List TreeFn) (k : ℕ) (f : TreeFn) → k < length fs → f ≡ get_or fs k f → (named f.name fs ≡ 1 → ⊥) → NamesDiffer fs → ⊥
names_clash fs k f lt e no_one h = let a = named_once fs k f lt e in let b = h f.name in no_one (omega (arith, a, b))
