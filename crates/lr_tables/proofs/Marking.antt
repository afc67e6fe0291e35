-- Marks that spread: what is marked at the end is the least set that holds the first marks and is
-- closed under the edges.
use Rattle.std.proofs.Common.{◌≡◌, ◌⊎◌, ℕ, zero, suc, ◌+◌, ◌≤◌, ◌<◌, List, [], ◌∷◌, Bool, true, false, cond, length, count_by, get_or, set, refl, sym, ap, ◌∙◌, subst, inl}
use Rattle.std.proofs.Common.{inr, ⊎_elim, arith, true≢false, length-set, get_or-set_other, get_or-set_same}
use Rattle.std.proofs.lemmas.List.{set-get_or, set_past}
use Rattle.std.proofs.lemmas.List.Sums.{sum_by-set, sum_by-cons}
use Rattle.std.proofs.lemmas.Bool.{cases_lt, cases_eq, cases_Bool}
use Rattle.lr_tables.specs.declared.marks.Edge.{Edge}
use Rattle.lr_tables.specs.Marks.{spread, rounds}
use Rattle.lr_tables.proofs.Members.{In}

-- the class is marked
abbrev pub Marked : List Bool → ℕ → Type 0
Marked m c = get_or m c false ≡ true

-- what is marked after one more mark
pub marked_set : (m : List Bool) (d c : ℕ) → Marked (set m d true) c → (c ≡ d) ⊎ Marked m c
marked_set m d c h = ⊎_elim (λ e. inl e) (λ u. inr (sym (get_or-set_other m d c true false u) ∙ h)) (cases_eq c d)

pub marked_kept : (m : List Bool) (d c : ℕ) → Marked m c → Marked (set m d true) c
marked_kept m d c h =
    ⊎_elim
    (λ lt. ⊎_elim
    (λ e. ap (λ x. get_or (set m d true) x false) e ∙ get_or-set_same m d true false lt)
    (λ u. get_or-set_other m d c true false u ∙ h)
    (cases_eq c d))
    (λ le. ap (λ x. get_or x c false) (set_past m d true le) ∙ h)
    (cases_lt d (length m))

pub marked_here : (m : List Bool) (d : ℕ) → d < length m → Marked (set m d true) d
marked_here m d lt = get_or-set_same m d true false lt

abbrev one : Edge → List Bool → List Bool
one e m = cond (get_or m e.from false) (set m e.to true) m

length-one : (e : Edge) (m : List Bool) → length (one e m) ≡ length m
length-one e m = by (get_or m e.from false)
  where
    by : (b : Bool) → length (cond b (set m e.to true) m) ≡ length m
    by true = length-set m e.to true
    by false = refl

pub length-spread : (es : List Edge) (m : List Bool) → length (spread es m) ≡ length m
length-spread [] m = refl
length-spread (e ∷ es) m = length-spread es (one e m) ∙ length-one e m

pub length-rounds : (n : ℕ) (es : List Edge) (m : List Bool) → length (rounds n es m) ≡ length m
length-rounds zero es m = refl
length-rounds (suc n) es m = length-spread es (rounds n es m) ∙ length-rounds n es m

one_kept : (e : Edge) (m : List Bool) (c : ℕ) → Marked m c → Marked (one e m) c
one_kept e m c h = by (get_or m e.from false)
  where
    by : (b : Bool) → Marked (cond b (set m e.to true) m) c
    by true = marked_kept m e.to c h
    by false = h

pub spread_kept : (es : List Edge) (m : List Bool) (c : ℕ) → Marked m c → Marked (spread es m) c
spread_kept [] m c h = h
spread_kept (e ∷ es) m c h = spread_kept es (one e m) c (one_kept e m c h)

pub rounds_kept : (n : ℕ) (es : List Edge) (m : List Bool) (c : ℕ) → Marked m c → Marked (rounds n es m) c
rounds_kept zero es m c h = h
rounds_kept (suc n) es m c h = spread_kept es (rounds n es m) c (rounds_kept n es m c h)

-- where an edge leads from a marked class is marked behind one more time
spread_along : (es : List Edge) (m : List Bool) (e : Edge) → In e es → Marked m e.from → e.to < length m → Marked (spread es m) e.to
spread_along [] m e at h lt = absurd at
spread_along (f ∷ es) m e at h lt =
    ⊎_elim
    (λ same. spread_kept es (one f m) e.to (subst (λ (x : Edge). Marked (one x m) e.to) (sym same) (here (get_or m e.from false) h)))
    (λ later. spread_along es (one f m) e later (one_kept f m e.from h) (subst (λ n. e.to < n) (sym (length-one f m)) lt))
    at
  where
    here : (b : Bool) → b ≡ true → Marked (cond b (set m e.to true) m) e.to
    here true u = marked_here m e.to lt
    here false u = absurd (true≢false (sym u))

-- no mark has another cause
module _ (P : ℕ → Type 0) where
  one_sound : (e : Edge) (m : List Bool) → ((c : ℕ) → Marked m c → P c) → (P e.from → P e.to) → (c : ℕ) → Marked (one e m) c → P c
  one_sound e m init closed c h = by (get_or m e.from false) refl h
    where
      by : (b : Bool) → get_or m e.from false ≡ b → Marked (cond b (set m e.to true) m) c → P c
      by true g h = ⊎_elim (λ u. subst P (sym u) (closed (init e.from g))) (λ u. init c u) (marked_set m e.to c h)
      by false g h = init c h

  pub spread_sound : (es : List Edge) (m : List Bool) → ((c : ℕ) → Marked m c → P c) → ((e : Edge) → In e es → P e.from → P e.to) → (c : ℕ) → Marked (spread es m) c → P c
  spread_sound [] m init closed c h = init c h
  spread_sound (e ∷ es) m init closed c h =
      spread_sound es (one e m) (λ d g. one_sound e m init (closed e (inl refl)) d g) (λ f g. closed f (inr g)) c h

  pub rounds_sound : (n : ℕ) (es : List Edge) (m : List Bool) → ((c : ℕ) → Marked m c → P c) → ((e : Edge) → In e es → P e.from → P e.to) → (c : ℕ) → Marked (rounds n es m) c → P c
  rounds_sound zero es m init closed c h = init c h
  rounds_sound (suc n) es m init closed c h = spread_sound es (rounds n es m) (λ d g. rounds_sound n es m init closed d g) closed c h

-- how many are marked
abbrev total : List Bool → ℕ
total m = count_by (λ (b : Bool). b) m

total-set : (m : List Bool) (d : ℕ) → d < length m → get_or m d false ≡ false → total (set m d true) ≡ total m + 1
total-set m d lt e =
    let f : Bool → ℕ = λ x. cond x 1 0 in
    let s : total (set m d true) + f (get_or m d false) ≡ total m + 1 = sum_by-set f m d true false lt in
    let g : f (get_or m d false) ≡ 0 = ap f e in
    omega (arith, s, g)

one_cases : (e : Edge) (m : List Bool) → (one e m ≡ m) ⊎ (total m < total (one e m))
one_cases e m = by (get_or m e.from false)
  where
    by : (b : Bool) → (cond b (set m e.to true) m ≡ m) ⊎ (total m < total (cond b (set m e.to true) m))
    by false = inl refl
    by true = ⊎_elim
        (λ lt. ⊎_elim
        (λ g. inl (ap (λ x. set m e.to x) (sym g) ∙ set-get_or m e.to false))
        (λ g. inr (let t : total (set m e.to true) ≡ total m + 1 = total-set m e.to lt g in omega (arith, t)))
        (cases_Bool (get_or m e.to false)))
        (λ le. inl (set_past m e.to true le))
        (cases_lt e.to (length m))

spread_cases : (es : List Edge) (m : List Bool) → (spread es m ≡ m) ⊎ (total m < total (spread es m))
spread_cases [] m = inl refl
spread_cases (e ∷ es) m =
    ⊎_elim
    (λ a. ⊎_elim (λ b. inl (b ∙ a)) (λ b. inr (let t : total (one e m) ≡ total m = ap total a in omega (arith, t, b))) (spread_cases es (one e m)))
    (λ a. ⊎_elim (λ b. inr (let t : total (spread es (one e m)) ≡ total (one e m) = ap total b in omega (arith, t, a))) (λ b. inr (omega (arith, a, b))) (spread_cases es (one e m)))
    (one_cases e m)

-- either nothing more follows, or each time marked one more
rounds_cases : (n : ℕ) (es : List Edge) (m : List Bool) → (spread es (rounds n es m) ≡ rounds n es m) ⊎ (n ≤ total (rounds n es m))
rounds_cases zero es m = inr (omega arith)
rounds_cases (suc n) es m =
    ⊎_elim
    (λ a. inl (ap (spread es) a))
    (λ a. ⊎_elim (λ b. inl (ap (spread es) b)) (λ b. inr (omega (arith, a, b))) (spread_cases es (rounds n es m)))
    (rounds_cases n es m)

total-cons : (b : Bool) (m : List Bool) → total (b ∷ m) ≡ cond b 1 0 + total m
total-cons b m = sum_by-cons (λ (x : Bool). cond x 1 0) b m

total_most : (m : List Bool) → total m ≤ length m
total_most [] = omega arith
total_most (true ∷ m) = let t = total_most m in let s : total (true ∷ m) ≡ 1 + total m = total-cons true m in omega (arith, t, s)
total_most (false ∷ m) = let t = total_most m in let s : total (false ∷ m) ≡ 0 + total m = total-cons false m in omega (arith, t, s)

-- all are marked
all_marked : (m : List Bool) → length m ≤ total m → (c : ℕ) → c < length m → Marked m c
all_marked [] h c lt = absurd (omega arith)
all_marked (true ∷ m) h zero lt = refl
all_marked (true ∷ m) h (suc c) lt = let s : total (true ∷ m) ≡ 1 + total m = total-cons true m in all_marked m (omega (arith, h, s)) c (omega (arith, lt))
all_marked (false ∷ m) h c lt = let t = total_most m in let s : total (false ∷ m) ≡ 0 + total m = total-cons false m in absurd (omega (arith, h, t, s))

-- the marks are closed under the edges
pub rounds_closed : (n : ℕ) (es : List Edge) (m : List Bool) → length m ≡ n → (e : Edge) → In e es → Marked (rounds n es m) e.from → e.to < n → Marked (rounds n es m) e.to
rounds_closed n es m len e at h lt =
    let l : length (rounds n es m) ≡ n = length-rounds n es m ∙ len in
    ⊎_elim
    (λ a. subst (λ x. Marked x e.to) a (spread_along es (rounds n es m) e at h (omega (arith, l, lt))))
    (λ a. all_marked (rounds n es m) (omega (arith, l, a)) e.to (omega (arith, l, lt)))
    (rounds_cases n es m)
