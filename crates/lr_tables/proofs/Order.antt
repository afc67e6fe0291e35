-- The order of items in kernels, by which equal sets are equal lists.
use Rattle.std.proofs.Common.{◌≡◌, ◌⊎◌, ℕ, ◌+◌, ◌≤◌, ◌<◌, List, [], ◌∷◌, ◌++◌, Option, Some, None, Bool, true, false, cond, map, filter, get_or, refl, sym, ap}
use Rattle.std.proofs.Common.{◌∙◌, subst, inl, inr, ⊎_elim, arith}
use Rattle.gg_base.proofs.Facts.{some_none}
use Rattle.md_reader.specs.declared.types.Rule.{Rule}
use Rattle.md_reader.specs.declared.types.Sym.{Sym}
use Rattle.lr_tables.specs.declared.item.Item.{Item}
use Rattle.lr_tables.specs.Symbols.{symbol_number}
use Rattle.lr_tables.specs.Items.{start, fresh, advanced}
use Rattle.lr_tables.specs.Sets.{chains, opened_from, open_classes, item_set, stands_before, moved}
use Rattle.lr_tables.specs.Kernels.{kernel_at}
use Rattle.lr_tables.proofs.Members.{In, In-cases, filter-In, map-In}

-- the rule stands before the other; no rule is the start, which stands first
abbrev pub RuleBefore : Option ℕ → Option ℕ → Type 0
RuleBefore None None = ⊥
RuleBefore None (Some n) = Unit {0}
RuleBefore (Some m) None = ⊥
RuleBefore (Some m) (Some n) = m < n

-- more symbols before the dot, or as many and an earlier rule
abbrev pub Before : Item → Item → Type 0
Before i j = (j.dot < i.dot) ⊎ ((i.dot ≡ j.dot) × RuleBefore i.rule j.rule)

-- each element of the list
abbrev pub Each : {X : Type 0} → (X → Type 0) → List X → Type 0
Each P [] = Unit {0}
Each P (x ∷ xs) = P x × Each P xs

abbrev pub Sorted : List Item → Type 0
Sorted [] = Unit {0}
Sorted (i ∷ k) = Each (Before i) k × Sorted k

pub Each-In : {X : Type 0} (P : X → Type 0) (xs : List X) (x : X) → Each P xs → In x xs → P x
Each-In P [] x h at = absurd at
Each-In P (y ∷ xs) x h at = ⊎_elim (λ e. subst P e h.0) (λ later. Each-In P xs x h.1 later) at

pub In-Each : {X : Type 0} (P : X → Type 0) (xs : List X) → ((x : X) → In x xs → P x) → Each P xs
In-Each P [] h = tt
In-Each P (y ∷ xs) h = (h y (inl refl), In-Each P xs (λ x at. h x (inr at)))

not_before_itself : (o : Option ℕ) → RuleBefore o o → ⊥
not_before_itself None h = h
not_before_itself (Some n) h = omega arith

rules_one_way : (o p : Option ℕ) → RuleBefore o p → RuleBefore p o → ⊥
rules_one_way None None h k = h
rules_one_way None (Some n) h k = k
rules_one_way (Some m) None h k = h
rules_one_way (Some m) (Some n) h k = omega arith

pub never_before_itself : (i : Item) → Before i i → ⊥
never_before_itself i h = ⊎_elim (λ a. omega (arith, a)) (λ a. not_before_itself i.rule a.1) h

pub one_way : (i j : Item) → Before i j → Before j i → ⊥
one_way i j h k =
    ⊎_elim
    (λ a. ⊎_elim (λ b. omega (arith, a, b)) (λ b. let e = b.0 in omega (arith, a, e)) k)
    (λ a. let e = a.0 in ⊎_elim (λ b. omega (arith, b, e)) (λ b. rules_one_way i.rule j.rule a.1 b.1) k)
    h

-- two sorted lists with the same elements are one list
pub sorted_same : (xs ys : List Item) → Sorted xs → Sorted ys → ((x : Item) → In x xs → In x ys) → ((x : Item) → In x ys → In x xs) → xs ≡ ys
sorted_same [] [] h k f g = refl
sorted_same [] (y ∷ ys) h k f g = absurd (g y (inl refl))
sorted_same (x ∷ xs) [] h k f g = absurd (f x (inl refl))
sorted_same (x ∷ xs) (y ∷ ys) h k f g = both first (sorted_same xs ys h.1 k.1 there back)
  where
    first : x ≡ y
    first = ⊎_elim (λ e. sym e) (λ a. ⊎_elim (λ e. e) (λ b. absurd (one_way x y (Each-In (Before x) xs y h.0 b) (Each-In (Before y) ys x k.0 a))) (g y (inl refl))) (f x (inl refl))

    there : (z : Item) → In z xs → In z ys
    there z at = ⊎_elim (λ e. absurd (never_before_itself x (subst (Before x) (sym e ∙ sym first) (Each-In (Before x) xs z h.0 at)))) (λ a. a) (f z (inr at))

    back : (z : Item) → In z ys → In z xs
    back z at = ⊎_elim (λ e. absurd (never_before_itself y (subst (Before y) (sym e ∙ first) (Each-In (Before y) ys z k.0 at)))) (λ a. a) (g z (inr at))

    both : x ≡ y → xs ≡ ys → x ∷ xs ≡ y ∷ ys
    both e f = cc

pub Sorted-append : (xs ys : List Item) → Sorted xs → Sorted ys → ((x y : Item) → In x xs → In y ys → Before x y) → Sorted (xs ++ ys)
Sorted-append [] ys h k f = k
Sorted-append (x ∷ xs) ys h k f = (
  In-Each (Before x) (xs ++ ys) (λ z at. ⊎_elim (λ a. Each-In (Before x) xs z h.0 a) (λ a. f x z (inl refl) a) (In-cases z xs ys at)),
  Sorted-append xs ys h.1 k (λ a b c d. f a b (inr c) d),
)

pub Sorted-filter : (p : Item → Bool) (xs : List Item) → Sorted xs → Sorted (filter p xs)
Sorted-filter p [] h = tt
Sorted-filter p (x ∷ xs) h = by (p x) (Sorted-filter p xs h.1)
  where
    by : (b : Bool) → Sorted (filter p xs) → Sorted (cond b (x ∷ filter p xs) (filter p xs))
    by true s = (In-Each (Before x) (filter p xs) (λ z at. Each-In (Before x) xs z h.0 (filter-In p z xs at).0), s)
    by false s = s

advanced_before : (i j : Item) → Before i j → Before (advanced i) (advanced j)
advanced_before i j h = ⊎_elim (λ a. inl (omega (arith, a))) (λ a. inr (ap (λ n. n + 1) a.0, a.1)) h

pub Sorted-advanced : (xs : List Item) → Sorted xs → Sorted (map advanced xs)
Sorted-advanced [] h = tt
Sorted-advanced (x ∷ xs) h = (
  In-Each (Before (advanced x)) (map advanced xs) (λ z at. let m : (y : Item) × In y xs × (z ≡ advanced y) = map-In advanced z xs at in
      subst (Before (advanced x)) (sym m.2) (advanced_before x m.0 (Each-In (Before x) xs m.0 h.0 m.1))),
  Sorted-advanced xs h.1,
)

-- an opened item is a rule from the number on, with the dot first
record Opened (k : ℕ) (i : Item) : Type 0 where
  place : ℕ
  is : i ≡ fresh place
  from : k ≤ place

opened_is : (rs : List Rule) (m : List Bool) (k : ℕ) (i : Item) → In i (opened_from k rs m) → Opened k i
opened_is [] m k i at = absurd at
opened_is (r ∷ rs) m k i at = ⊎_elim (λ o. o) (λ u. let o : Opened (k + 1) i = opened_is rs m (k + 1) i u in record { place = o.place; is = o.is; from = (let f = o.from in omega (arith, f)) })
    (by (get_or m r.left false) at)
  where
    by : (b : Bool) → In i (cond b (fresh k ∷ opened_from (k + 1) rs m) (opened_from (k + 1) rs m)) → Opened k i ⊎ In i (opened_from (k + 1) rs m)
    by true u = ⊎_elim (λ s. inl (record { place = k; is = sym s; from = omega arith })) (λ x. inr x) u
    by false u = inr u

opened_sorted : (rs : List Rule) (m : List Bool) (k : ℕ) → Sorted (opened_from k rs m)
opened_sorted [] m k = tt
opened_sorted (r ∷ rs) m k = by (get_or m r.left false) (opened_sorted rs m (k + 1))
  where
    first : (z : Item) → In z (opened_from (k + 1) rs m) → Before (fresh k) z
    first z at = let o : Opened (k + 1) z = opened_is rs m (k + 1) z at in subst (Before (fresh k)) (sym o.is) (inr (refl, let f = o.from in omega (arith, f)))

    by : (b : Bool) → Sorted (opened_from (k + 1) rs m) → Sorted (cond b (fresh k ∷ opened_from (k + 1) rs m) (opened_from (k + 1) rs m))
    by true s = (In-Each (Before (fresh k)) (opened_from (k + 1) rs m) first, s)
    by false s = s

-- what may stand in a kernel: an item with a symbol before its dot, or the start
abbrev pub InKernel : Item → Type 0
InKernel i = (0 < i.dot) ⊎ (i ≡ start)

kernel_first : (i j : Item) → InKernel i → Opened 0 j → Before i j
kernel_first i j h o =
    ⊎_elim
    (λ a. subst (Before i) (sym o.is) (inl a))
    (λ e. subst (λ (x : Item). Before x j) (sym e) (subst (Before start) (sym o.is) (inr (refl, tt))))
    h

pub set_sorted : (rules : List Rule) (stmt classes : ℕ) (k : List Item) → Sorted k → ((i : Item) → In i k → InKernel i) → Sorted (item_set rules stmt classes (chains rules) k)
unfolding item_set
set_sorted rules stmt classes k s h =
    let m = open_classes rules stmt classes (chains rules) k in
    Sorted-append k (opened_from 0 rules m) s (opened_sorted rules m 0) (λ x y a b. kernel_first x y (h x a) (opened_is rules m 0 y b))

pub moved_sorted : (rules : List Rule) (stmt s : ℕ) (items : List Item) → Sorted items → Sorted (moved rules stmt s items)
unfolding moved
moved_sorted rules stmt s items h = Sorted-advanced (filter (stands_before rules stmt s) items) (Sorted-filter (stands_before rules stmt s) items h)

pub moved_kernel : (rules : List Rule) (stmt s : ℕ) (items : List Item) (i : Item) → In i (moved rules stmt s items) → InKernel i
unfolding moved
moved_kernel rules stmt s items i at =
    let m : (j : Item) × In j (filter (stands_before rules stmt s) items) × (i ≡ advanced j) = map-In advanced i (filter (stands_before rules stmt s) items) at in
    inl (let e : i.dot ≡ m.0.dot + 1 = ap (λ (x : Item). x.dot) m.2 in omega (arith, e))

pub kernel_in : (rules : List Rule) (stmt classes : ℕ) (a : List Sym) (i : Item) → In i (kernel_at rules stmt classes a) → InKernel i
kernel_in rules stmt classes [] i at = ⊎_elim (λ e. inr (sym e)) (λ x. absurd x) at
kernel_in rules stmt classes (X ∷ a) i at = moved_kernel rules stmt (symbol_number X) (item_set rules stmt classes (chains rules) (kernel_at rules stmt classes a)) i at

pub kernel_sorted : (rules : List Rule) (stmt classes : ℕ) (a : List Sym) → Sorted (kernel_at rules stmt classes a)
kernel_sorted rules stmt classes [] = (tt, tt)
kernel_sorted rules stmt classes (X ∷ a) =
    moved_sorted rules stmt (symbol_number X) (item_set rules stmt classes (chains rules) (kernel_at rules stmt classes a))
    (set_sorted rules stmt classes (kernel_at rules stmt classes a) (kernel_sorted rules stmt classes a) (λ i at. kernel_in rules stmt classes a i at))

-- the kernel's items are those of the item set that may stand in a kernel
pub set_kernel : (rules : List Rule) (stmt classes : ℕ) (k : List Item) (i : Item) → In i (item_set rules stmt classes (chains rules) k) → InKernel i → In i k
unfolding item_set
set_kernel rules stmt classes k i at h =
    ⊎_elim
    (λ x. x)
    (λ x. let o : Opened 0 i = opened_is rules (open_classes rules stmt classes (chains rules) k) 0 i x in absurd (never o.place o.is h))
    (In-cases i k (opened_from 0 rules (open_classes rules stmt classes (chains rules) k)) at)
  where
    never : (n : ℕ) → i ≡ fresh n → InKernel i → ⊥
    never n e h = ⊎_elim (λ a. let d : i.dot ≡ 0 = ap (λ (x : Item). x.dot) e in omega (arith, a, d)) (λ s. some_none n (sym (ap (λ (x : Item). x.rule) e) ∙ ap (λ (x : Item). x.rule) s)) h
