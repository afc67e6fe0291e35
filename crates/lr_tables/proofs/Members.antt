-- The elements of lists.
use Rattle.std.proofs.Common.{◌≡◌, ◌⊎◌, ℕ, zero, suc, ◌<◌, List, [], ◌∷◌, ◌++◌, Option, Some, None, Bool, true, false, cond, Contains, length, get_or, map, filter, slice_get}
use Rattle.std.proofs.Common.{refl, sym, ap, ◌∙◌, inl, inr, ⊎_elim, arith, true≢false}
use Rattle.std.specs.List.{filter_map, cons_option}

-- the element is in the list
abbrev pub In : {X : Type 0} → X → List X → Type 0
In x [] = ⊥
In x (y ∷ ys) = (y ≡ x) ⊎ In x ys

pub In-left : {X : Type 0} (x : X) (xs ys : List X) → In x xs → In x (xs ++ ys)
In-left x [] ys h = absurd h
In-left x (y ∷ xs) ys h = ⊎_elim (λ e. inl e) (λ g. inr (In-left x xs ys g)) h

pub In-right : {X : Type 0} (x : X) (xs ys : List X) → In x ys → In x (xs ++ ys)
In-right x [] ys h = h
In-right x (y ∷ xs) ys h = inr (In-right x xs ys h)

pub In-cases : {X : Type 0} (x : X) (xs ys : List X) → In x (xs ++ ys) → In x xs ⊎ In x ys
In-cases x [] ys h = inr h
In-cases x (y ∷ xs) ys h = ⊎_elim (λ e. inl (inl e)) (λ g. ⊎_elim (λ a. inl (inr a)) (λ b. inr b) (In-cases x xs ys g)) h

pub In-Contains : {X : Type 0} (x : X) (xs : List X) → In x xs → Contains xs x
In-Contains x [] h = absurd h
In-Contains x (y ∷ xs) h = ⊎_elim (λ e. (0, omega arith, e)) (λ g. let c : Contains xs x = In-Contains x xs g in (suc c.0, (let lt = c.1 in omega (arith, lt)), c.2)) h

pub Contains-In : {X : Type 0} (x : X) (xs : List X) → Contains xs x → In x xs
Contains-In {X = X} x xs h = by xs h.0 h.1 h.2
  where
    by : (ys : List X) (k : ℕ) → k < length ys → get_or ys k x ≡ x → In x ys
    by [] k lt e = absurd (omega arith)
    by (y ∷ ys) zero lt e = inl e
    by (y ∷ ys) (suc k) lt e = inr (by ys k (omega (arith, lt)) e)

pub In-slice_get : {X : Type 0} (x : X) (xs : List X) → In x xs → (k : ℕ) × (slice_get xs k ≡ Some x)
In-slice_get x [] h = absurd h
In-slice_get x (y ∷ xs) h = ⊎_elim (λ e. (0, ap Some e)) (λ g. let c : (k : ℕ) × (slice_get xs k ≡ Some x) = In-slice_get x xs g in (suc c.0, c.1)) h

pub slice_get-In : {X : Type 0} (x : X) (xs : List X) (k : ℕ) → slice_get xs k ≡ Some x → In x xs
slice_get-In x [] zero e = cc
slice_get-In x [] (suc k) e = cc
slice_get-In x (y ∷ xs) zero e = inl (let same : y ≡ x = cc in same)
slice_get-In x (y ∷ xs) (suc k) e = inr (slice_get-In x xs k e)

pub In-map : {X Y : Type 0} (f : X → Y) (x : X) (xs : List X) → In x xs → In (f x) (map f xs)
In-map f x [] h = absurd h
In-map f x (y ∷ xs) h = ⊎_elim (λ e. inl (ap f e)) (λ g. inr (In-map f x xs g)) h

pub map-In : {X Y : Type 0} (f : X → Y) (y : Y) (xs : List X) → In y (map f xs) → (x : X) × In x xs × (y ≡ f x)
map-In f y [] h = absurd h
map-In {X = X} f y (z ∷ xs) h = ⊎_elim (λ e. (z, inl refl, sym e)) (λ g. let c : (x : X) × In x xs × (y ≡ f x) = map-In f y xs g in (c.0, inr c.1, c.2)) h

pub In-filter : {X : Type 0} (p : X → Bool) (x : X) (xs : List X) → In x xs → p x ≡ true → In x (filter p xs)
In-filter p x [] h e = absurd h
In-filter p x (y ∷ xs) h e = by (p y) refl (⊎_elim (λ s. inl s) (λ later. inr (In-filter p x xs later e)) h)
  where
    by : (b : Bool) → p y ≡ b → (y ≡ x) ⊎ In x (filter p xs) → In x (cond b (y ∷ filter p xs) (filter p xs))
    by true g k = k
    by false g k = ⊎_elim (λ s. absurd (true≢false (sym e ∙ (sym (ap p s) ∙ g)))) (λ later. later) k

pub filter-In : {X : Type 0} (p : X → Bool) (x : X) (xs : List X) → In x (filter p xs) → In x xs × (p x ≡ true)
filter-In p x [] h = absurd h
filter-In p x (y ∷ xs) h = by (λ k. filter-In p x xs k) (p y) refl h
  where
    by : (In x (filter p xs) → In x xs × (p x ≡ true)) → (b : Bool) → p y ≡ b → In x (cond b (y ∷ filter p xs) (filter p xs)) → In x (y ∷ xs) × (p x ≡ true)
    by ih true g k = ⊎_elim (λ s. (inl s, sym (ap p s) ∙ g)) (λ later. let c : In x xs × (p x ≡ true) = ih later in (inr c.0, c.1)) k
    by ih false g k = let c : In x xs × (p x ≡ true) = ih k in (inr c.0, c.1)

-- what a list is put before, where there is one more
cons_later : {Y : Type 0} (o : Option Y) (y : Y) (ys : List Y) → In y ys → In y (cons_option o ys)
cons_later None y ys h = h
cons_later (Some w) y ys h = inr h

cons_here : {Y : Type 0} (o : Option Y) (y : Y) (ys : List Y) → o ≡ Some y → In y (cons_option o ys)
cons_here None y ys e = cc
cons_here (Some w) y ys e = inl (let same : w ≡ y = cc in same)

cons_cases : {Y : Type 0} (o : Option Y) (y : Y) (ys : List Y) → In y (cons_option o ys) → (o ≡ Some y) ⊎ In y ys
cons_cases None y ys h = inr h
cons_cases (Some w) y ys h = ⊎_elim (λ s. inl (ap Some s)) (λ later. inr later) h

pub In-filter_map : {X Y : Type 0} (h : X → Option Y) (x : X) (y : Y) (xs : List X) → In x xs → h x ≡ Some y → In y (filter_map h xs)
In-filter_map h x y [] at e = absurd at
In-filter_map h x y (z ∷ xs) at e = ⊎_elim (λ s. cons_here (h z) y (filter_map h xs) (ap h s ∙ e)) (λ later. cons_later (h z) y (filter_map h xs) (In-filter_map h x y xs later e)) at

pub filter_map-In : {X Y : Type 0} (h : X → Option Y) (y : Y) (xs : List X) → In y (filter_map h xs) → (x : X) × In x xs × (h x ≡ Some y)
filter_map-In h y [] at = absurd at
filter_map-In {X = X} h y (z ∷ xs) at = ⊎_elim (λ s. (z, inl refl, s)) (λ later. let c : (x : X) × In x xs × (h x ≡ Some y) = filter_map-In h y xs later in (c.0, inr c.1, c.2))
    (cons_cases (h z) y (filter_map h xs) at)
