-- Classes on a path, each once: they are few, so one comes again.
use Rattle.std.proofs.Common.{◌≡◌, ◌⊎◌, ℕ, zero, suc, ◌+◌, ◌≤◌, ◌<◌, List, [], ◌∷◌, ◌++◌, Some, length, drop, slice_get, refl, sym, ap, ◌∙◌, subst, inl, inr, ⊎_elim, arith}
use Rattle.std.proofs.lemmas.Bool.{cases_eq}
use Rattle.std.proofs.lemmas.List.{drop-append-le}
use Rattle.std.proofs.lemmas.Option.{slice_get_within, none-some}
use Rattle.gg_base.proofs.Facts.{slice_cases}
use Rattle.tree_core.specs.declared.token.Tok.{Tok}
use Rattle.lr_tables.proofs.Members.{In, In-slice_get}
use Rattle.lr_check_sets.specs.Automaton.{Automaton}
use Rattle.lr_check_flaws.specs.Flaws.{StepsTo, Along, along_one, along_on}
use Rattle.lr_check_decided.specs.declared.turning.Turn.{Turn}
use Rattle.lr_check_decided.specs.Turn.{Led, led_here, led_on, IsTurn}

-- ---- numbers below n, each once

abbrev Apart : List ℕ → Type 0
Apart [] = Unit {0}
Apart (x ∷ xs) = (In x xs → ⊥) × Apart xs

in_last : (x c : ℕ) (xs : List ℕ) → In x (xs ++ c ∷ []) → In x xs ⊎ (c ≡ x)
in_last x c [] (inl e) = inr e
in_last x c [] (inr m) = absurd m
in_last x c (y ∷ ys) (inl e) = inl (inl e)
in_last x c (y ∷ ys) (inr m) = ⊎_elim (λ h. inl (inr h)) (λ e. inr e) (in_last x c ys m)

apart_last : (c : ℕ) (xs : List ℕ) → Apart xs → (In c xs → ⊥) → Apart (xs ++ c ∷ [])
apart_last c [] apart out = (λ m. m, tt)
apart_last c (y ∷ ys) apart out = (λ m. ⊎_elim apart.0 (λ e. out (inl (sym e))) (in_last y c ys m), apart_last c ys apart.1 (λ m. out (inr m)))

-- the numbers but the last, each once
record Dropped (n : ℕ) (xs : List ℕ) : Type 0 where
  left : List ℕ
  apart : Apart left
  low : (x : ℕ) → In x left → x < n
  old : (x : ℕ) → In x left → In x xs
  many : length xs ≤ suc (length left)

-- the last number goes, and stands nowhere else
drop_here : (n z : ℕ) (zs : List ℕ) → Apart (z ∷ zs) → ((x : ℕ) → In x (z ∷ zs) → x < suc n) → z ≡ n → Dropped n (z ∷ zs)
drop_here n z zs apart low e = record { left = zs; apart = apart.1; low = λ x m. below x m (low x (inr m)); old = λ x m. inr m; many = omega arith }
  where
    below : (x : ℕ) → In x zs → x < suc n → x < n
    below x m lt = ⊎_elim (λ same. absurd (apart.0 (subst (λ y. In y zs) (same ∙ sym e) m))) (λ other. omega (arith, lt, other)) (cases_eq x n)

drop_there : (n z : ℕ) (zs : List ℕ) → Apart (z ∷ zs) → ((x : ℕ) → In x (z ∷ zs) → x < suc n) → (z ≡ n → ⊥) → Dropped n zs → Dropped n (z ∷ zs)
drop_there n z zs apart low other d = record {
  left = z ∷ d.left;
  apart = (λ m. apart.0 (d.old z m), d.apart);
  low = λ x m. ⊎_elim (λ e. first x e) (λ r. d.low x r) m;
  old = λ x m. ⊎_elim (λ e. inl e) (λ r. inr (d.old x r)) m;
  many = let le = d.many in omega (arith, le);
}
  where
    first : (x : ℕ) → z ≡ x → x < n
    first x e = let lt = low z (inl refl) in subst (λ y. y < n) e (omega (arith, lt, other))

drop_last : (n : ℕ) (xs : List ℕ) → Apart xs → ((x : ℕ) → In x xs → x < suc n) → Dropped n xs
drop_last n [] apart low = record { left = []; apart = tt; low = λ x m. absurd m; old = λ x m. absurd m; many = omega arith }
drop_last n (z ∷ zs) apart low =
    let ih : Dropped n zs = drop_last n zs apart.1 (λ x m. low x (inr m)) in
    ⊎_elim (λ e. drop_here n z zs apart low e) (λ other. drop_there n z zs apart low other ih) (cases_eq z n)

-- numbers below n, each once, are at most n
pub at_most : (n : ℕ) (xs : List ℕ) → Apart xs → ((x : ℕ) → In x xs → x < n) → length xs ≤ n
at_most zero [] apart low = omega arith
at_most zero (x ∷ xs) apart low = absurd (let lt = low x (inl refl) in omega (arith, lt))
at_most (suc n) xs apart low =
    let d : Dropped n xs = drop_last n xs apart low in
    let le : length d.left ≤ n = at_most n d.left d.apart d.low in
    let more = d.many in
    omega (arith, le, more)

drop_end : (xs : List ℕ) (c : ℕ) → drop (suc (length xs)) (xs ++ c ∷ []) ≡ []
drop_end [] c = refl
drop_end (x ∷ xs) c = drop_end xs c

module _ (A : Automaton) (q : ℕ) (b : Tok) (most start : ℕ) where
  -- classes below a number, each once; from each of them reductions lead along the later ones to the class
  pub record Way (way : List ℕ) (c : ℕ) : Type 0 where
    pub apart : Apart way
    pub low : (z : ℕ) → In z way → z < most
    pub led : Led A q b start c
    pub each : (j d : ℕ) → slice_get way j ≡ Some d → Along A q b d (drop (suc j) way ++ c ∷ []) c

  pub no_way : Way [] start
  no_way = record { apart = tt; low = λ z m. absurd m; led = led_here; each = λ j d e. absurd (none-some d e) }

  -- a new class comes to the way
  pub way_on : (way : List ℕ) (c d : ℕ) → Way way c → ((j : ℕ) → slice_get way j ≡ Some c → ⊥) → c < most → StepsTo A q b c d → Way (way ++ c ∷ []) d
  way_on way c d w new low s = record {
    apart = apart_last c way w.apart (λ m. let h = In-slice_get c way m in new h.0 h.1);
    low = λ z m. ⊎_elim (w.low z) (λ e. subst (λ n. n < most) e low) (in_last z c way m);
    led = led_on w.led s;
    each = λ j e at. ⊎_elim (older j e) (newest j e) (slice_cases way c j e at);
  }
    where
      older : (j e : ℕ) → slice_get way j ≡ Some e → Along A q b e (drop (suc j) (way ++ c ∷ []) ++ d ∷ []) d
      older j e at =
          let lt = slice_get_within way j e at in
          let le : suc j ≤ length way = omega (arith, lt) in
          subst (λ l. Along A q b e (l ++ d ∷ []) d) (sym (drop-append-le (suc j) way (c ∷ []) le)) (along_on (w.each j e at) s)

      newest : (j e : ℕ) → (j ≡ length way) × (e ≡ c) → Along A q b e (drop (suc j) (way ++ c ∷ []) ++ d ∷ []) d
      newest j e (last, is) =
          subst (λ n. Along A q b n (drop (suc j) (way ++ c ∷ []) ++ d ∷ []) d) (sym is)
          (subst (λ l. Along A q b c (l ++ d ∷ []) d) (sym (ap (λ n. drop (suc n) (way ++ c ∷ [])) last ∙ drop_end way c)) (along_one s))

  -- a class that stands on the way turns
  pub turns : (way : List ℕ) (c at : ℕ) (t : Turn) → Way way c → slice_get way at ≡ Some c → t.class ≡ c → t.along.items ≡ drop (at + 1) way ++ c ∷ [] → IsTurn A q b start t
  turns way c at t w there class along =
      let more : suc at ≡ at + 1 = omega arith in
      let turn : Along A q b c t.along.items c =
      subst (λ l. Along A q b c l c) (sym along) (subst (λ n. Along A q b c (drop n way ++ c ∷ []) c) more (w.each at c there)) in
      record {
        led = subst (Led A q b start) (sym class) w.led;
        along = subst (λ n. Along A q b n t.along.items n) (sym class) turn;
      }

  -- there are no more classes on the way
  pub way_ends : (way : List ℕ) (c : ℕ) → Way way c → length way ≤ most
  way_ends way c w = at_most most way w.apart w.low
