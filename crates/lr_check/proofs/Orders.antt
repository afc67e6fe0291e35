-- The list of what is to come, and the order that it leads to.
use Rattle.std.proofs.Common.{◌≡◌, ℕ, zero, suc, ◌+◌, ◌-◌, ◌≤◌, ◌<◌, List, [], ◌∷◌, ◌++◌, Some, Contains, length, reverse, slice_get, refl, sym, ap, ◌∙◌, subst}
use Rattle.std.proofs.Common.{⊎_elim, arith, append_assoc, append-nil, length-append}
use Rattle.std.proofs.lemmas.List.{reverse-append, reverse-reverse, length-reverse}
use Rattle.std.proofs.lemmas.List.Elements.{Contains-append_cases, Contains-push_cases, Contains-push, Contains-append_left, Contains-append_right}
use Rattle.gg_base.proofs.Facts.{slice_some}
use Rattle.lr_check.specs.Tree.{Node, IsSample}
use Rattle.lr_check.specs.Order.{Orders, ends, goes_on, IsOrder, IsLongOrder}

abbrev pub root : List Node → List ℕ
root nodes = (length nodes - 1) ∷ []

-- the nodes so far, and those whose trees are to come, the next of which stands last
pub record Ordering (nodes : List Node) (order rest : List ℕ) (n : ℕ) : Type 0 where
  pub onto : (w : List ℕ) → Orders nodes (reverse rest) w → Orders nodes (root nodes) (order ++ w)
  pub many : length order ≡ n
  pub within : (k : ℕ) → Contains rest k → k < length nodes

reverse_kids : (rest kids : List ℕ) → reverse (rest ++ reverse kids) ≡ kids ++ reverse rest
reverse_kids rest kids = reverse-append rest (reverse kids) ∙ ap (λ (x : List ℕ). x ++ reverse rest) (reverse-reverse kids)

reverse_has : (l : List ℕ) (j : ℕ) → Contains (reverse l) j → Contains l j
reverse_has [] j h = h
reverse_has (x ∷ l) j h =
    ⊎_elim
    (λ a. Contains-append_right (x ∷ []) l j (reverse_has l j a))
    (λ e. (0, omega arith, e))
    (Contains-push_cases (reverse l) x j (subst (λ (y : List ℕ). Contains y j) (reverse-append (x ∷ []) l) h))

-- the next node is one of the nodes
pub next_within : (nodes : List Node) (order old rest : List ℕ) (n k : ℕ) → Ordering nodes order old n → old ≡ rest ++ k ∷ [] → k < length nodes
next_within nodes order old rest n k o e = o.within k (subst (λ (x : List ℕ). Contains x k) (sym e) (Contains-push rest k))

pub ordering_turn : (nodes : List Node) (order old rest order' rest' : List ℕ) (n k : ℕ) (v : Node) → IsSample nodes → Ordering nodes order old n → old ≡ rest ++ k ∷ [] → slice_get nodes k
    ≡ Some v → order' ≡ order ++ k ∷ [] → rest' ≡ rest ++ reverse v.kids → Ordering nodes order' rest' (n + 1)
ordering_turn nodes order old rest order' rest' n k v s o e there f g =
    let turned : reverse old ≡ k ∷ reverse rest = ap reverse e ∙ reverse-append rest (k ∷ []) in
    let next : reverse rest' ≡ v.kids ++ reverse rest = ap reverse g ∙ reverse_kids rest v.kids in
    record {
      onto = λ w p.
          let q : Orders nodes (reverse old) (k ∷ w) = subst (λ (x : List ℕ). Orders nodes x (k ∷ w)) (sym turned) (goes_on v there (subst (λ (x : List ℕ). Orders nodes x w) next p)) in
          subst (Orders nodes (root nodes)) (sym (ap (λ (x : List ℕ). x ++ w) f ∙ append_assoc order (k ∷ []) w)) (o.onto (k ∷ w) q);
      many = (let l = length-append order (k ∷ []) in let m = o.many in let h : length order' ≡ length (order ++ k ∷ []) = ap (λ (x : List ℕ). length x) f in omega (arith, l, m, h));
      within = λ j h. ⊎_elim
          (λ a. o.within j (subst (λ (x : List ℕ). Contains x j) (sym e) (Contains-append_left rest (k ∷ []) j a)))
          (λ a. let lt : j < k = s.lower k j v there (reverse_has v.kids j a) in let here : k < length nodes = o.within k (subst (λ (x : List ℕ). Contains x k) (sym e) (Contains-push rest k)) in
          omega (arith, lt, here))
          (Contains-append_cases rest (reverse v.kids) j (subst (λ (x : List ℕ). Contains x j) g h));
    }

-- what two lists of nodes lead to, one behind the other
orders_append : (nodes : List Node) {l u : List ℕ} (rest w : List ℕ) → Orders nodes l u → Orders nodes rest w → Orders nodes (l ++ rest) (u ++ w)
orders_append nodes rest w ends o = o
orders_append nodes rest w (goes_on {n = n} {rest = r} {w = u} v there p) o =
    goes_on v there (subst (λ (x : List ℕ). Orders nodes x (u ++ w)) (append_assoc v.kids r rest) (orders_append nodes rest w p o))

module _ (nodes : List Node) (s : IsSample nodes) where
  -- nodes below a number lead to an order, if those below the numbers before do
  orders_list : (n : ℕ) → n < length nodes → ((l : List ℕ) → ((k : ℕ) → Contains l k → k < n) → (w : List ℕ) × Orders nodes l w) → (l : List ℕ) → ((k : ℕ) → Contains l k → k < n + 1)
      → (w : List ℕ) × Orders nodes l w
  orders_list n lt ih [] h = ([], ends)
  orders_list n lt ih (k ∷ l) h =
      let here : k < n + 1 = h k (0, omega arith, refl) in
      let within : k < length nodes = omega (arith, here, lt) in
      let v : (x : Node) × (slice_get nodes k ≡ Some x) = slice_some nodes k within in
      let below : (w : List ℕ) × Orders nodes v.0.kids w = ih v.0.kids (λ j c. let less : j < k = s.lower k j v.0 v.1 c in omega (arith, less, here)) in
      let beside : (w : List ℕ) × Orders nodes l w = orders_list n lt ih l (λ j c. h j (Contains-append_right (k ∷ []) l j c)) in
      (k ∷ (below.0 ++ beside.0), goes_on v.0 v.1 (orders_append nodes l beside.0 below.1 beside.1))

  orders_below : (n : ℕ) → n ≤ length nodes → (l : List ℕ) → ((k : ℕ) → Contains l k → k < n) → (w : List ℕ) × Orders nodes l w
  orders_below zero le [] h = ([], ends)
  orders_below zero le (k ∷ l) h = absurd (let lt = h k (0, omega arith, refl) in omega (arith, lt))
  orders_below (suc n) le l h = orders_list n (omega (arith, le)) (orders_below n (omega (arith, le))) l (λ k c. let lt = h k c in omega (arith, lt))

pub ordering_done : (nodes : List Node) (order old : List ℕ) (n : ℕ) → Ordering nodes order old n → old ≡ [] → n ≤ 100000 → IsOrder nodes order
ordering_done nodes order old n o e le = record {
  orders = subst (Orders nodes (root nodes)) (append-nil order) (o.onto [] (subst (λ (x : List ℕ). Orders nodes x []) (sym (ap reverse e)) ends));
  short = (let m = o.many in omega (arith, m, le));
}

pub ordering_long : (nodes : List Node) (order old : List ℕ) (n : ℕ) → IsSample nodes → Ordering nodes order old n → n ≡ 100000 → 0 < length old → IsLongOrder nodes
ordering_long nodes order old n s o e some =
    let rest : (w : List ℕ) × Orders nodes (reverse old) w = orders_below nodes s (length nodes) (omega arith) (reverse old) (λ k c. o.within k (reverse_has old k c)) in
    let lt : 0 < length rest.0 = more (reverse old) rest.0 rest.1 (let l = length-reverse old in omega (arith, l, some)) in
    let l = length-append order rest.0 in
    let m = o.many in
    record { order = order ++ rest.0; orders = o.onto rest.0 rest.1; long = omega (arith, lt, l, m, e) }
  where
    more : (l u : List ℕ) → Orders nodes l u → 0 < length l → 0 < length u
    more l u ends lt = absurd (omega (arith, lt))
    more l u (goes_on v there r) lt = omega arith
