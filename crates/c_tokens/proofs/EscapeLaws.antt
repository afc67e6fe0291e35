-- Escapes and elements are read exactly as they are written.
use Rattle.std.proofs.Common.{◌≡◌, ◌≢◌, ◌<◌, ◌≤◌, ◌⊎◌, ℕ, zero, suc, Bool, true, false, cond, eqb, List, [], ◌∷◌, ◌++◌, length, take, drop, Option, Some, None, refl, sym, ◌∙◌, ap}
use Rattle.std.proofs.Common.{arith, inl, inr, subst, length-append}
use Rattle.std.proofs.lemmas.Bool.{eqb-true, eqb-false, ne_eqb, ltb-false, le-ltb}
use Rattle.std.proofs.lemmas.Option.{none-some, same_Some}
use Rattle.std.proofs.Math.Seq.{drop-append_seam, take-append_seam}
use Rattle.std.specs.Option.{option_map}
use Rattle.std.specs.Prelude.{nat_lt}
use Rattle.std.proofs.lemmas.List.{length-take-le}
use Rattle.gg_base.specs.Fronts.{run_len}
use Rattle.c_tokens.specs.Letters.{is_digit_of}
use Rattle.c_tokens.specs.Numbers.{number_behind}
use Rattle.c_tokens.specs.Escapes.{named_escape, byte_of, octal_len, octal_escape, hexadecimal_escape, one_longer, numeric_escape, either_escape, escape_of, element_of}
use Rattle.c_tokens.specs.Grammar.{Pass, Stops, Writes, IsEscape, named, octal, hexadecimal, IsElement, plain, escape}
use Rattle.c_tokens.specs.Wrong.{NoEscape}
use Rattle.c_tokens.proofs.RunLaws.{run_cut, run_within, run_again}
use Rattle.c_tokens.proofs.NumberLaws.{writes, written}

-- the run of up to k that is cut off
record UpTo (p : ℕ → Bool) (k : ℕ) (text : List ℕ) (n : ℕ) : Type 0 where
  pub pass : Pass p (take n text)
  pub text_is : text ≡ take n text ++ drop n text
  pub length_is : length (take n text) ≡ n
  pub within : n ≤ length text
  pub longest : (n ≡ k) ⊎ ((n < k) × Stops p (drop n text))

up_to : (p : ℕ → Bool) (k : ℕ) (text : List ℕ) → UpTo p k text (run_len p (take k text))
up_to p zero text = record { pass = tt; text_is = refl; length_is = refl; within = omega arith; longest = inl refl }
up_to p (suc k) [] = record { pass = tt; text_is = refl; length_is = refl; within = omega arith; longest = inr (omega arith, tt) }
up_to p (suc k) (b ∷ bs) = step (p b) refl (run_len p (take k bs)) (up_to p k bs)
  where
    further : (n : ℕ) → (n ≡ k) ⊎ ((n < k) × Stops p (drop n bs)) → (suc n ≡ suc k) ⊎ ((suc n < suc k) × Stops p (drop n bs))
    further n (inl e) = inl (ap suc e)
    further n (inr h) = let low : n < k = h.0 in inr (omega arith, h.1)

    step : (t : Bool) → p b ≡ t → (n : ℕ) → UpTo p k bs n → UpTo p (suc k) (b ∷ bs) (cond t (suc n) 0)
    step true e n u = let low : n ≤ length bs = u.within in
        record { pass = (e, u.pass); text_is = ap (λ (l : List ℕ). b ∷ l) u.text_is; length_is = ap suc u.length_is; within = omega arith; longest = further n u.longest }
    step false e n u = record { pass = tt; text_is = refl; length_is = refl; within = omega arith; longest = inr (omega arith, e) }

up_to_again : (p : ℕ → Bool) (k : ℕ) (run rest : List ℕ) → Pass p run → (length run ≡ k) ⊎ ((length run < k) × Stops p rest) → run_len p (take k (run ++ rest)) ≡ length run
up_to_again p zero [] rest h l = refl
up_to_again p zero (b ∷ bs) rest h (inl e) = absurd (omega arith)
up_to_again p zero (b ∷ bs) rest h (inr l) = let low : length (b ∷ bs) < 0 = l.0 in absurd (omega arith)
up_to_again p (suc k) [] [] h l = refl
up_to_again p (suc k) [] (c ∷ cs) h (inl e) = absurd (omega arith)
up_to_again p (suc k) [] (c ∷ cs) h (inr l) = rw l.1 refl
up_to_again p (suc k) (b ∷ bs) rest h (inl e) = rw (h.0, up_to_again p k bs rest h.1 (inl (omega arith))) refl
up_to_again p (suc k) (b ∷ bs) rest h (inr l) = let low : length (b ∷ bs) < suc k = l.0 in rw (h.0, up_to_again p k bs rest h.1 (inr (omega arith, l.1))) refl

-- what a read escape says
pub record Escaped (text : List ℕ) (x : ℕ × ℕ) : Type 0 where
  pub is : IsEscape text x.0 (drop x.1 text)
  pub some : 1 ≤ x.1
  pub within : x.1 ≤ length text

record ByteOf (base n : ℕ) (ds : List ℕ) (x : ℕ × ℕ) : Type 0 where
  pub len : x.1 ≡ n
  pub writes : Writes base 255 (take n ds) x.0

byte_is : (base n : ℕ) (ds : List ℕ) (x : ℕ × ℕ) → byte_of base n ds ≡ Some x → ByteOf base n ds x
byte_is base n ds x e = step (number_behind base 255 0 (take n ds)) refl e
  where
    step : (o : Option ℕ) → number_behind base 255 0 (take n ds) ≡ o → option_map (λ (v : ℕ). (v, n)) o ≡ Some x → ByteOf base n ds x
    step None f h = absurd (none-some x h)
    step (Some v) f h = subst (λ (y : ℕ × ℕ). ByteOf base n ds y) (same_Some (v, n) x h) (record { len = refl; writes = writes base 255 (take n ds) v f })

byte_reads : (base n : ℕ) (digits rest : List ℕ) (v : ℕ) → 1 ≤ base → n ≡ length digits → Writes base 255 digits v → byte_of base n (digits ++ rest) ≡ Some (v, n)
byte_reads base n digits rest v one e w = rw (e, take-append_seam digits rest, written base 255 digits v one w) refl

octal_is : (ds : List ℕ) (x : ℕ × ℕ) → octal_escape ds ≡ Some x → Escaped ds x
octal_is ds x e = step (eqb (octal_len ds) 0) refl e
  where
    step : (t : Bool) → eqb (octal_len ds) 0 ≡ t → cond t None (byte_of 8 (octal_len ds) ds) ≡ Some x → Escaped ds x
    step true f h = absurd (none-some x h)
    step false f h =
        let u = up_to (is_digit_of 8) 3 ds in
        let b = byte_is 8 (octal_len ds) ds x h in
        let len : x.1 ≡ octal_len ds = b.len in
        let more : octal_len ds ≡ 0 → ⊥ = eqb-false (octal_len ds) 0 f in
        let within : octal_len ds ≤ length ds = u.within in
        let length_is : length (take (octal_len ds) ds) ≡ octal_len ds = u.length_is in
        record {
          is = rw len (octal ds (take (octal_len ds) ds) x.0 (drop (octal_len ds) ds) (record { text_is = u.text_is; pass = u.pass; some = omega arith; longest = rw length_is u.longest }) b.writes);
          some = omega arith;
          within = omega arith;
        }

hexadecimal_is : (ds : List ℕ) (x : ℕ × ℕ) → hexadecimal_escape ds ≡ Some x → Escaped (120 ∷ ds) (x.0, suc x.1)
hexadecimal_is ds x e = step (eqb (run_len (is_digit_of 16) ds) 0) (nat_lt 2 (run_len (is_digit_of 16) ds)) refl refl e
  where
    step : (t u : Bool) → eqb (run_len (is_digit_of 16) ds) 0 ≡ t → nat_lt 2 (run_len (is_digit_of 16) ds) ≡ u → cond t None (cond u None (byte_of 16 (run_len (is_digit_of 16) ds) ds))
        ≡ Some x → Escaped (120 ∷ ds) (x.0, suc x.1)
    step true u f g h = absurd (none-some x h)
    step false true f g h = absurd (none-some x h)
    step false false f g h =
        let r = run_cut (is_digit_of 16) ds in
        let b = byte_is 16 (run_len (is_digit_of 16) ds) ds x h in
        let len : x.1 ≡ run_len (is_digit_of 16) ds = b.len in
        let more : run_len (is_digit_of 16) ds ≡ 0 → ⊥ = eqb-false (run_len (is_digit_of 16) ds) 0 f in
        let two : run_len (is_digit_of 16) ds ≤ 2 = ltb-false 2 (run_len (is_digit_of 16) ds) g in
        let within : run_len (is_digit_of 16) ds ≤ length ds = run_within (is_digit_of 16) ds in
        let length_is : length (take (run_len (is_digit_of 16) ds) ds) ≡ run_len (is_digit_of 16) ds = length-take-le (run_len (is_digit_of 16) ds) ds within in
        record {
          is = rw len (hexadecimal ds (take (run_len (is_digit_of 16) ds) ds) x.0 (drop (run_len (is_digit_of 16) ds) ds) r (omega arith) (omega arith) b.writes);
          some = omega arith;
          within = omega arith;
        }

one_longer_is : (o : Option (ℕ × ℕ)) (x : ℕ × ℕ) → one_longer o ≡ Some x → (y : ℕ × ℕ) × ((o ≡ Some y) × ((y.0, suc y.1) ≡ x))
one_longer_is None x e = absurd (none-some x e)
one_longer_is (Some y) x e = (y, (refl, same_Some (y.0, suc y.1) x e))

numeric_is : (b : ℕ) (bs : List ℕ) (x : ℕ × ℕ) → numeric_escape (b ∷ bs) ≡ Some x → Escaped (b ∷ bs) x
numeric_is b bs x e = step (eqb b 120) refl e
  where
    step : (t : Bool) → eqb b 120 ≡ t → cond t (one_longer (hexadecimal_escape bs)) (octal_escape (b ∷ bs)) ≡ Some x → Escaped (b ∷ bs) x
    step true f h =
        let o = one_longer_is (hexadecimal_escape bs) x h in
        subst (λ (c : ℕ). Escaped (c ∷ bs) x) (sym (eqb-true b 120 f)) (subst (λ (z : ℕ × ℕ). Escaped (120 ∷ bs) z) o.1.1 (hexadecimal_is bs o.0 o.1.0))
    step false f h = octal_is (b ∷ bs) x h

-- what is read is so written
pub escape_is : (text : List ℕ) (x : ℕ × ℕ) → escape_of text ≡ Some x → Escaped text x
escape_is [] x e = absurd (none-some x e)
escape_is (b ∷ bs) x e = step (named_escape b) refl e
  where
    step : (o : Option ℕ) → named_escape b ≡ o → either_escape o (b ∷ bs) ≡ Some x → Escaped (b ∷ bs) x
    step None f h = numeric_is b bs x h
    step (Some v) f h = subst (λ (y : ℕ × ℕ). Escaped (b ∷ bs) y) (same_Some (v, 1) x h) (record { is = named b v bs f; some = omega arith; within = omega arith })

-- an octal digit is no letter of an escape
octal_plain : (d : ℕ) → is_digit_of 8 d ≡ true → named_escape d ≡ None
octal_plain d e = rw (not_so 110 refl, not_so 116 refl, not_so 114 refl, not_so 97 refl, not_so 98 refl, not_so 102 refl, not_so 118 refl, not_so 92 refl, not_so 39 refl, not_so 34 refl) refl
  where
    never : (y : ℕ) → is_digit_of 8 y ≡ false → d ≡ y → ⊥
    never y f g = let h : is_digit_of 8 y ≡ true = subst (λ (z : ℕ). is_digit_of 8 z ≡ true) g e in cc

    not_so : (y : ℕ) → is_digit_of 8 y ≡ false → eqb d y ≡ false
    not_so y f = ne_eqb d y (never y f)

octal_no_x : (d : ℕ) → is_digit_of 8 d ≡ true → eqb d 120 ≡ false
octal_no_x d e = ne_eqb d 120 (never 120 refl)
  where
    never : (y : ℕ) → is_digit_of 8 y ≡ false → d ≡ y → ⊥
    never y f g = let h : is_digit_of 8 y ≡ true = subst (λ (z : ℕ). is_digit_of 8 z ≡ true) g e in cc

-- what is so written is read
pub record EscapeRead (text : List ℕ) (v : ℕ) (rest : List ℕ) : Type 0 where
  pub taken : ℕ
  pub read : escape_of text ≡ Some (v, taken)
  pub rest_is : drop taken text ≡ rest
  pub some : 1 ≤ taken
  pub within : taken ≤ length text

octal_reads : (text digits : List ℕ) (v : ℕ) (rest : List ℕ) → text ≡ digits ++ rest → Pass (is_digit_of 8) digits → 1 ≤ length digits
    → (length digits ≡ 3) ⊎ ((length digits < 3) × Stops (is_digit_of 8) rest) → Writes 8 255 digits v → EscapeRead (digits ++ rest) v rest
octal_reads text [] v rest e h one l w = absurd (omega arith)
octal_reads text (d ∷ ds) v rest e h one l w =
    let len : octal_len ((d ∷ ds) ++ rest) ≡ length (d ∷ ds) = up_to_again (is_digit_of 8) 3 (d ∷ ds) rest h l in
    let nonzero : eqb (octal_len ((d ∷ ds) ++ rest)) 0 ≡ false = rw len (ne_eqb (length (d ∷ ds)) 0 (λ (z : length (d ∷ ds) ≡ 0). omega arith)) in
    record {
      taken = length (d ∷ ds);
      read = rw (octal_plain d h.0, octal_no_x d h.0, nonzero, byte_reads 8 (octal_len ((d ∷ ds) ++ rest)) (d ∷ ds) rest v (omega arith) len w, len) refl;
      rest_is = drop-append_seam (d ∷ ds) rest;
      some = omega arith;
      within = omega (arith, length-append (d ∷ ds) rest);
    }

hexadecimal_reads : (digits : List ℕ) (v : ℕ) (rest : List ℕ) → Pass (is_digit_of 16) digits → Stops (is_digit_of 16) rest → 1 ≤ length digits → length digits ≤ 2 → Writes 16 255 digits v
    → EscapeRead (120 ∷ digits ++ rest) v rest
hexadecimal_reads digits v rest h s one two w =
    let len : run_len (is_digit_of 16) (digits ++ rest) ≡ length digits = run_again (is_digit_of 16) digits rest h s in
    let nonzero : eqb (run_len (is_digit_of 16) (digits ++ rest)) 0 ≡ false = rw len (ne_eqb (length digits) 0 (λ (z : length digits ≡ 0). omega arith)) in
    let small : nat_lt 2 (run_len (is_digit_of 16) (digits ++ rest)) ≡ false = rw len (le-ltb 2 (length digits) two) in
    record {
      taken = suc (length digits);
      read = rw (nonzero, small, byte_reads 16 (run_len (is_digit_of 16) (digits ++ rest)) digits rest v (omega arith) len w, len) refl;
      rest_is = drop-append_seam digits rest;
      some = omega arith;
      within = omega (arith, length-append digits rest);
    }

pub escape_reads : (text : List ℕ) (v : ℕ) (rest : List ℕ) → IsEscape text v rest → EscapeRead text v rest
escape_reads _ _ _ (named b v rest e) = record { taken = 1; read = rw e refl; rest_is = refl; some = omega arith; within = omega arith }
escape_reads _ _ _ (octal text digits v rest o w) = subst (λ (t : List ℕ). EscapeRead t v rest) (sym o.text_is) (octal_reads text digits v rest o.text_is o.pass o.some o.longest w)
escape_reads _ _ _ (hexadecimal text digits v rest r one two w) = subst (λ (t : List ℕ). EscapeRead (120 ∷ t) v rest) (sym r.text_is) (hexadecimal_reads digits v rest r.pass r.stops one two w)

pub no_escape : (text : List ℕ) → escape_of text ≡ None → NoEscape text
no_escape text e v rest h = let r = escape_reads text v rest h in none-some (v, r.taken) (sym e ∙ r.read)

pub escape_none : (text : List ℕ) → NoEscape text → escape_of text ≡ None
escape_none text h = step (escape_of text) refl
  where
    step : (o : Option (ℕ × ℕ)) → escape_of text ≡ o → escape_of text ≡ None
    step None e = e
    step (Some x) e = absurd (h x.0 (drop x.1 text) (escape_is text x e).is)

-- elements
pub record ElementIs (mark : ℕ) (text : List ℕ) (x : ℕ × ℕ) : Type 0 where
  pub is : IsElement mark text x.0 (drop x.1 text)
  pub some : 1 ≤ x.1
  pub within : x.1 ≤ length text

pub element_is : (mark b : ℕ) (bs : List ℕ) (x : ℕ × ℕ) → b ≢ 10 → b ≢ mark → element_of (b ∷ bs) ≡ Some x → ElementIs mark (b ∷ bs) x
element_is mark b bs x line other e = step (eqb b 92) refl e
  where
    step : (t : Bool) → eqb b 92 ≡ t → cond t (one_longer (escape_of bs)) (Some (b, 1)) ≡ Some x → ElementIs mark (b ∷ bs) x
    step true f h =
        let o = one_longer_is (escape_of bs) x h in
        let r = escape_is bs o.0 o.1.0 in
        let low : o.0.1 ≤ length bs = r.within in
        subst (λ (c : ℕ). ElementIs mark (c ∷ bs) x) (sym (eqb-true b 92 f))
        (subst (λ (z : ℕ × ℕ). ElementIs mark (92 ∷ bs) z) o.1.1 (record { is = escape bs o.0.0 (drop o.0.1 bs) r.is; some = omega arith; within = omega arith }))
    step false f h = subst (λ (y : ℕ × ℕ). ElementIs mark (b ∷ bs) y) (same_Some (b, 1) x h) (record { is = plain b bs (eqb-false b 92 f) line other; some = omega arith; within = omega arith })

-- a byte that begins no element is a backslash that begins no escape
pub element_none : (b : ℕ) (bs : List ℕ) → element_of (b ∷ bs) ≡ None → (b ≡ 92) × NoEscape bs
element_none b bs e = step (eqb b 92) refl e
  where
    longer : (o : Option (ℕ × ℕ)) → one_longer o ≡ None → o ≡ None
    longer None h = refl
    longer (Some y) h = absurd (none-some (y.0, suc y.1) (sym h))

    step : (t : Bool) → eqb b 92 ≡ t → cond t (one_longer (escape_of bs)) (Some (b, 1)) ≡ None → (b ≡ 92) × NoEscape bs
    step true f h = (eqb-true b 92 f, no_escape bs (longer (escape_of bs) h))
    step false f h = absurd (none-some (b, 1) (sym h))

pub record ElementRead (mark : ℕ) (text : List ℕ) (v : ℕ) (rest : List ℕ) : Type 0 where
  pub first : ℕ
  pub others : List ℕ
  pub text_is : text ≡ first ∷ others
  pub no_mark : eqb first mark ≡ false
  pub no_line : eqb first 10 ≡ false
  pub behind : ℕ
  pub read : element_of (first ∷ others) ≡ Some (v, suc behind)
  pub rest_is : drop behind others ≡ rest
  pub within : behind ≤ length others

pub element_reads : (mark : ℕ) (text : List ℕ) (v : ℕ) (rest : List ℕ) → eqb 92 mark ≡ false → IsElement mark text v rest → ElementRead mark text v rest
element_reads mark _ _ _ f (plain b rest slash line other) = record {
  first = b;
  others = rest;
  text_is = refl;
  no_mark = ne_eqb b mark other;
  no_line = ne_eqb b 10 line;
  behind = 0;
  read = rw (ne_eqb b 92 slash) refl;
  rest_is = refl;
  within = omega arith;
}
element_reads mark _ _ _ f (escape text v rest h) =
    let r = escape_reads text v rest h in
    record { first = 92; others = text; text_is = refl; no_mark = f; no_line = refl; behind = r.taken; read = rw r.read refl; rest_is = r.rest_is; within = r.within }
