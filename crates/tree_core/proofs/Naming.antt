-- Names that are looked at part by part of their hashes.
use Rattle.std.proofs.Common.{◌≡◌, ⊎_elim, ℕ, suc, ◌+◌, ◌<◌, ◌≤◌, List, [], ◌∷◌, length, get_or, Bool, true, false, cond, refl, sym, ap, ◌∙◌, subst, arith}
use Rattle.std.specs.Str.{bytes_eq}
use Rattle.std.specs.Bool.{MatchBool}
use Rattle.std.specs.Prelude.{IsTrue, ◌↔◌}
use Rattle.std.specs.List.{range_with_len, AllWithin, HoldsAt}
use Rattle.std.proofs.lemmas.Bool.{cases_lt, true≢false}
use Rattle.std.proofs.lemmas.List.FromFn.{length-range_with_len, get_or-range_with_len}
use Rattle.std.proofs.lemmas.Slice.Eq.{bytes_eq-Decides}
use Rattle.tree_core.specs.declared.program.TreeFn.{TreeFn}
use Rattle.tree_core.specs.Valid.{named, NamesDiffer}
use Rattle.tree_core.specs.Hashes.{hash_of, part_of, slot_of, IsSettled, AreSettled}
use Rattle.tree_core.proofs.Elements.{IsNamed, is_named}

-- the hashes of the names before a place were met where they belong to the part, and those names are settled
pub record Sifted (fs : List TreeFn) (parts part : ℕ) (met : List Bool) (n : ℕ) : Type 0 where
  pub wide : length met ≡ 65536
  pub marked : (k : ℕ) (d : TreeFn) → k < n → part_of parts (hash_of (get_or fs k d).name) ≡ part → get_or met (slot_of (hash_of (get_or fs k d).name)) false ≡ true
  pub settled : (k : ℕ) (d : TreeFn) → k < n → part_of parts (hash_of (get_or fs k d).name) ≡ part → IsSettled fs k (get_or fs k d)

-- two places of a name that is counted twice
pub record StandsTwice (name : List ℕ) (fs : List TreeFn) : Type 0 where
  pub first : ℕ
  pub second : ℕ
  pub apart : first < second
  pub within : second < length fs
  pub one : (d : TreeFn) → (get_or fs first d).name ≡ name
  pub other : (d : TreeFn) → (get_or fs second d).name ≡ name

twice_there : (name : List ℕ) (f : TreeFn) (fs : List TreeFn) → (2 ≤ named name fs → StandsTwice name fs) → (b : Bool) → bytes_eq f.name name ≡ b → 2 ≤ cond b 1 0 + named name fs
    → StandsTwice name (f ∷ fs)
twice_there name f fs rest true e le = here (is_named name fs (omega arith))
  where
    here : IsNamed name fs → StandsTwice name (f ∷ fs)
    here h = record {
      first = 0;
      second = suc h.place;
      apart = omega arith;
      within = omega (arith, h.within);
      one = λ d. (bytes_eq-Decides f.name name).0 e;
      other = h.so;
    }
twice_there name f fs rest false e le = later (rest (omega (arith, le)))
  where
    later : StandsTwice name fs → StandsTwice name (f ∷ fs)
    later h = record {
      first = suc h.first;
      second = suc h.second;
      apart = omega (arith, h.apart);
      within = omega (arith, h.within);
      one = h.one;
      other = h.other;
    }

twice : (name : List ℕ) (fs : List TreeFn) → 2 ≤ named name fs → StandsTwice name fs
twice name [] le = absurd (omega arith)
twice name (f ∷ fs) le = twice_there name f fs (λ q. twice name fs q) (bytes_eq f.name name) refl le

-- where the names of each part are settled no two functions have one name
pub settled_differ : (fs : List TreeFn) (parts : ℕ) → 0 < parts → ((p : ℕ) → p < parts → AreSettled parts p fs) → NamesDiffer fs
settled_differ [] parts some all name = omega arith
settled_differ (g ∷ gs) parts some all name =
    ⊎_elim (λ few. omega (arith, few)) (λ many. absurd (clash many (twice name (g ∷ gs) many))) (cases_lt (named name (g ∷ gs)) 2)
  where
    part_in : (hash : ℕ) → part_of parts hash < parts
    part_in hash = omega (arith, some)

    clash : 2 ≤ named name (g ∷ gs) → StandsTwice name (g ∷ gs) → ⊥
    clash many h =
        let f : TreeFn = get_or (g ∷ gs) h.second g in
        ⊎_elim (λ differ. differ h.first g h.apart (h.one g ∙ sym (h.other g)))
        (λ once. let e : named name (g ∷ gs) ≡ 1 = ap (λ (w : List ℕ). named w (g ∷ gs)) (sym (h.other g)) ∙ once in absurd (omega (arith, many, e)))
        (all (part_of parts (hash_of f.name)) (part_in (hash_of f.name)) h.second g h.within refl)

-- so says a look at one part after the other that ends at the first clash
pub all_settled : (fs : List TreeFn) (parts : ℕ) → 0 < parts → (r : Bool)
    → MatchBool r (AllWithin (λ p. AreSettled parts p fs) (range_with_len 0 parts) 0 (length (range_with_len 0 parts)))
    ((k : ℕ) × (k < length (range_with_len 0 parts)) × HoldsAt (λ _. NamesDiffer fs → ⊥) (range_with_len 0 parts) k)
    → IsTrue r ↔ NamesDiffer fs
all_settled fs parts some true h = ((λ t. settled_differ fs parts some each), (λ d. refl))
  where
    same : (p : ℕ) → p < parts → get_or (range_with_len 0 parts) p 0 ≡ p
    same p lt = omega (arith, get_or-range_with_len 0 parts p 0 lt)

    each : (p : ℕ) → p < parts → AreSettled parts p fs
    each p lt = subst (λ q. AreSettled parts q fs) (same p lt) (h p 0 (omega arith) (omega (arith, length-range_with_len 0 parts)))
all_settled fs parts some false h = ((λ t. absurd (true≢false (sym t))), (λ d. absurd (h.2 0 d)))
