-- Which nodes a root reaches: the marks.
use Rattle.std.proofs.Common.{◌≡◌, ◌⊎◌, ℕ, zero, suc, ◌+◌, ◌-◌, ◌<◌, List, [], ◌∷◌, Some, Bool, true, false, Contains, length, set, get_or, slice_get, refl}
use Rattle.std.proofs.Common.{sym, ap, ◌∙◌, subst, inl, inr, ⊎_elim, arith, true≢false}
use Rattle.std.proofs.lemmas.Bool.{cases_lt}
use Rattle.std.proofs.lemmas.Option.{slice_get_within, slice_get-get_or, same_Some}
use Rattle.lr_tables.proofs.Members.{In, In-Contains, Contains-In}
use Rattle.lr_check.specs.Tree.{Node, IsSample}
use Rattle.lr_check_nodes.specs.Pruned.{with_marks, IsMarked, IsMarkedUser, Reaching}

pub set_same : (ms : List Bool) (k : ℕ) → k < length ms → IsMarked (set ms k true) k
set_same [] k lt = absurd (omega (arith, lt))
set_same (m ∷ ms) zero lt = refl
set_same (m ∷ ms) (suc k) lt = set_same ms k (omega (arith, lt))

pub set_keeps : (ms : List Bool) (k n : ℕ) → IsMarked ms n → IsMarked (set ms k true) n
set_keeps [] k n h = h
set_keeps (m ∷ ms) zero zero h = refl
set_keeps (m ∷ ms) zero (suc n) h = h
set_keeps (m ∷ ms) (suc k) zero h = h
set_keeps (m ∷ ms) (suc k) (suc n) h = set_keeps ms k n h

pub set_cases : (ms : List Bool) (k n : ℕ) → IsMarked (set ms k true) n → IsMarked ms n ⊎ (k ≡ n)
set_cases [] k n h = inl h
set_cases (m ∷ ms) zero zero h = inr refl
set_cases (m ∷ ms) zero (suc n) h = inl h
set_cases (m ∷ ms) (suc k) zero h = inl h
set_cases (m ∷ ms) (suc k) (suc n) h = ⊎_elim (λ a. inl a) (λ b. inr (ap suc b)) (set_cases ms k n h)

set_long : (ms : List Bool) (k : ℕ) → length (set ms k true) ≡ length ms
set_long [] k = refl
set_long (m ∷ ms) zero = refl
set_long (m ∷ ms) (suc k) = ap suc (set_long ms k)

marks_long : (ms : List Bool) (ks : List ℕ) → length (with_marks ms ks) ≡ length ms
marks_long ms [] = refl
marks_long ms (k ∷ ks) = marks_long (set ms k true) ks ∙ set_long ms k

marks_keep : (ms : List Bool) (ks : List ℕ) (n : ℕ) → IsMarked ms n → IsMarked (with_marks ms ks) n
marks_keep ms [] n h = h
marks_keep ms (k ∷ ks) n h = marks_keep (set ms k true) ks n (set_keeps ms k n h)

marks_there : (ms : List Bool) (ks : List ℕ) (n : ℕ) → In n ks → n < length ms → IsMarked (with_marks ms ks) n
marks_there ms [] n h lt = absurd h
marks_there ms (k ∷ ks) n h lt = ⊎_elim
    (λ e. marks_keep (set ms k true) ks n (subst (λ j. IsMarked (set ms k true) j) e (set_same ms k (omega (arith, lt, e)))))
    (λ g. marks_there (set ms k true) ks n g (let long = set_long ms k in omega (arith, lt, long)))
    h

marks_cases : (ms : List Bool) (ks : List ℕ) (n : ℕ) → IsMarked (with_marks ms ks) n → IsMarked ms n ⊎ In n ks
marks_cases ms [] n h = inl h
marks_cases ms (k ∷ ks) n h = ⊎_elim
    (λ a. ⊎_elim (λ b. inl b) (λ e. inr (inl e)) (set_cases ms k n a))
    (λ g. inr (inr g))
    (marks_cases (set ms k true) ks n h)

-- a node that is marked is looked at
pub reach_marked : (nodes : List Node) (marks marks' : List Bool) (n : ℕ) (v : Node) → IsSample nodes → Reaching nodes marks (n + 1) → slice_get nodes n ≡ Some v → IsMarked marks n →
    marks' ≡ with_marks marks v.kids → Reaching nodes marks' n
reach_marked nodes marks marks' n v sample r at marked e = subst (λ l. Reaching nodes l n) (sym e) (record {
  many = marks_long marks v.kids ∙ r.many;
  root = marks_keep marks v.kids (length nodes - 1) r.root;
  kids = λ m k u le h there c. ⊎_elim
      (λ less. absurd (omega (arith, less, le)))
      (λ ge. ⊎_elim
      (λ above. ⊎_elim
      (λ old. marks_keep marks v.kids k (r.kids m k u (omega (arith, above)) old there c))
      (λ kid. absurd (let low = sample.lower n m v at (In-Contains m v.kids kid) in omega (arith, low, le)))
      (marks_cases marks v.kids m h))
      (λ here. kid_marked k (subst (λ x. Contains x.kids k) (same m u (omega (arith, le, here)) there) c))
      (cases_lt n m))
      (cases_lt m n);
  used = λ m h lt. ⊎_elim
      (λ old. let g : IsMarkedUser nodes marks m = r.used m old lt in
      record { number = g.number; user = g.user; there = g.there; kid = g.kid; marked = marks_keep marks v.kids g.number g.marked })
      (λ kid. record { number = n; user = v; there = at; kid = In-Contains m v.kids kid; marked = marks_keep marks v.kids n marked })
      (marks_cases marks v.kids m h);
})
  where
    kid_marked : (k : ℕ) → Contains v.kids k → IsMarked (with_marks marks v.kids) k
    kid_marked k c = marks_there marks v.kids k (Contains-In k v.kids c)
        (let low = sample.lower n k v at c in let lt = slice_get_within nodes n v at in let many = r.many in omega (arith, low, lt, many))

    same : (m : ℕ) (u : Node) → m ≡ n → slice_get nodes m ≡ Some u → u ≡ v
    same m u e there = same_Some u v (sym there ∙ (ap (slice_get nodes) e ∙ at))

-- and one that isn't has no kids to be marked
pub reach_unmarked : (nodes : List Node) (marks : List Bool) (n : ℕ) → Reaching nodes marks (n + 1) → slice_get marks n ≡ Some false → Reaching nodes marks n
reach_unmarked nodes marks n r un = record {
  many = r.many;
  root = r.root;
  kids = λ m k u le h there c. ⊎_elim
      (λ above. r.kids m k u (omega (arith, above)) h there c)
      (λ here. absurd (true≢false (same_Some true false (sym h ∙ (ap (slice_get marks) (let same : m ≡ n = omega (arith, le, here) in same) ∙ un)))))
      (cases_lt n m);
  used = r.used;
}

-- a look at a node, as the code makes it
pub look_marked : (nodes : List Node) (marks marks' : List Bool) (n : ℕ) (v : Node) (d : Bool) (ks : List ℕ) → IsSample nodes → Reaching nodes marks (n + 1) → n < length nodes →
    v ≡ get_or nodes n v → get_or marks n d ≡ true → ks ≡ v.kids → marks' ≡ with_marks marks ks → Reaching nodes marks' n
look_marked nodes marks marks' n v d ks sample r lt is marked kids e =
    reach_marked nodes marks marks' n v sample r (slice_get-get_or nodes n v lt ∙ ap Some (sym is))
    (slice_get-get_or marks n d (let many = r.many in omega (arith, lt, many)) ∙ ap Some marked) (e ∙ ap (with_marks marks) kids)

pub look_unmarked : (nodes : List Node) (marks : List Bool) (n : ℕ) (d : Bool) → Reaching nodes marks (n + 1) → n < length nodes → get_or marks n d ≡ false → Reaching nodes marks n
look_unmarked nodes marks n d r lt un = reach_unmarked nodes marks n r (slice_get-get_or marks n d (let many = r.many in omega (arith, lt, many)) ∙ ap Some un)
