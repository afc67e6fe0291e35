-- What a call's instructions may touch lies apart from its homes.
use Rattle.std.proofs.Common.{◌≡◌, ◌⊎◌, inl, inr, ⊎_elim, ℕ, ◌+◌, ◌-◌, ◌*◌, ◌%◌, ◌^◌, ◌<◌, ◌≤◌, Bool, true, false, cond, List, [], ◌∷◌, Some, None, refl, sym, ap, subst, ◌∙◌, arith}
use Rattle.std.specs.Prelude.{◌==◌, ◌&&◌, ◌||◌, nat_le, nat_lt, is_none}
use Rattle.std.proofs.lemmas.Bool.{and_parts, leb-true, ltb-true, eqb-true, eq-eqb, le-leb, lt-ltb, false≢true}
use Rattle.gg_base.specs.Arithmetic.{add32, neg32}
use Rattle.vax_confined.specs.vax_core.specs.declared.operand.Addr.{Addr}
use Rattle.vax_homes.specs.declared.choose.Home.{Home}
use Rattle.vax_homes.specs.Choosing.{is_home_at}
use Rattle.vax_homes.specs.Homing.{register_at}
use Rattle.vax_confined.specs.Confined.{is_word}
use Rattle.vax_homes_law.specs.Alike.{Has, IsPaired, word_place, is_argument_of, IsFree, AreLaid}
use Rattle.vax_homes_law.specs.Laying.{is_home_byte, IsPiece, PiecesAreLaid}

or_true : (a b : Bool) → (a || b) ≡ true → (a ≡ true) ⊎ (b ≡ true)
or_true true b e = inl refl
or_true false b e = inr e

pub or_left : (a b : Bool) → a ≡ true → (a || b) ≡ true
or_left true b e = refl
or_left false b e = absurd (false≢true e)

pub or_right : (a b : Bool) → b ≡ true → (a || b) ≡ true
or_right true b e = refl
or_right false b e = e

pub both_true : (a b : Bool) → a ≡ true → b ≡ true → (a && b) ≡ true
both_true true b e f = f
both_true false b e f = absurd (false≢true e)

-- a home's byte is one of some home
pub record OfHome (hs : List Home) (fp i : ℕ) : Type 0 where
  pub home : Home
  pub has : Has hs home
  pub from : word_place fp home.local ≤ i
  pub to : i < word_place fp home.local + 4

of_home : (hs : List Home) (fp i : ℕ) → is_home_byte hs fp i ≡ true → OfHome hs fp i
of_home [] fp i e = absurd (false≢true e)
of_home (h ∷ hs) fp i e =
    ⊎_elim
    (λ here. let p = and_parts (nat_le (word_place fp h.local) i) (nat_lt i (word_place fp h.local + 4)) here in
    record { home = h; has = inl refl; from = leb-true (word_place fp h.local) i p.0; to = ltb-true i (word_place fp h.local + 4) p.1 })
    (λ more. let f = of_home hs fp i more in record { home = f.home; has = inr f.has; from = f.from; to = f.to })
    (or_true (nat_le (word_place fp h.local) i && nat_lt i (word_place fp h.local + 4)) (is_home_byte hs fp i) e)

home_byte : (hs : List Home) (fp i : ℕ) (h : Home) → Has hs h → word_place fp h.local ≤ i → i < word_place fp h.local + 4 → is_home_byte hs fp i ≡ true
home_byte [] fp i h has from to = absurd has
home_byte (g ∷ hs) fp i h (inl e) from to =
    subst (λ (x : Home). ((nat_le (word_place fp x.local) i && nat_lt i (word_place fp x.local + 4)) || is_home_byte hs fp i) ≡ true) (sym e)
    (or_left _ (is_home_byte hs fp i) (both_true (nat_le (word_place fp h.local) i) (nat_lt i (word_place fp h.local + 4)) (le-leb (word_place fp h.local) i from) (lt-ltb i
    (word_place fp h.local + 4) to)))
home_byte (g ∷ hs) fp i h (inr more) from to =
    or_right (nat_le (word_place fp g.local) i && nat_lt i (word_place fp g.local + 4)) (is_home_byte hs fp i) (home_byte hs fp i h more from to)

-- an address that no home has
no_home : (hs : List Home) (a : Addr) → register_at hs a ≡ None → (h : Home) → Has hs h → is_home_at h.local a ≡ true → ⊥
no_home [] a e h has at = has
no_home (g ∷ hs) a e h has at = by (is_home_at g.local a) refl e has (λ f more. no_home hs a f h more at)
  where
    by : (b : Bool) → is_home_at g.local a ≡ b → cond b (Some g.register) (register_at hs a) ≡ None → ((g ≡ h) ⊎ Has hs h) → (register_at hs a ≡ None → Has hs h → ⊥) → ⊥
    by true is e has rest = some_none e
      where
        some_none : Some g.register ≡ None → ⊥
        some_none q = cc
    by false is e (inl same) rest = false≢true (sym is ∙ ap (λ (x : Home). is_home_at x.local a) same ∙ at)
    by false is e (inr more) rest = rest e more

module _ (hs : List Home) (outer : ℕ → Bool) (fp ap_at args words low high : ℕ) (paired : IsPaired hs) (p : IsPiece hs fp ap_at args words low high)
    (above : (i : ℕ) → outer i ≡ true → high ≤ 2139095040 + i) where
  -- a byte that is neither of a home nor from `high` on
  not_hidden : (i : ℕ) → ((h : Home) → Has hs h → word_place fp h.local ≤ i → i < word_place fp h.local + 4 → ⊥) → 2139095040 + i < high → (is_home_byte hs fp i || outer i) ≡ true → ⊥
  not_hidden i none lt e =
      ⊎_elim (λ home. let f = of_home hs fp i home in none f.home f.has f.from f.to) (λ o. let ge = above i o in omega (arith, ge, lt)) (or_true (is_home_byte hs fp i) (outer i) e)

  word_free : (a : Addr) → is_word a ≡ true → register_at hs a ≡ None → IsFree hs (λ i. (is_home_byte hs fp i || outer i) ≡ true) (add32 a.offset fp)
  word_free a e none j lt hidden =
      let q = and_parts (is_none a.name) (nat_le 4 (neg32 a.offset) && (nat_le (neg32 a.offset) 4096 && (neg32 a.offset % 4 == 0))) e in
      let r = and_parts (nat_le 4 (neg32 a.offset)) (nat_le (neg32 a.offset) 4096 && (neg32 a.offset % 4 == 0)) q.1 in
      let s = and_parts (nat_le (neg32 a.offset) 4096) (neg32 a.offset % 4 == 0) r.1 in
      let from = leb-true 4 (neg32 a.offset) r.0 in
      let to = leb-true (neg32 a.offset) 4096 s.0 in
      let four = eqb-true (neg32 a.offset % 4) 0 s.1 in
      not_hidden (add32 a.offset fp - 2139095040 + j)
      (λ h has ge le.
      no_home hs a none h has
      (both_true (is_none a.name) (a.offset + 4 * (h.local + 1) == 2 ^ 32) q.0
      (eq-eqb (a.offset + 4 * (h.local + 1)) (2 ^ 32) (omega (arith, from, to, four, ge, le, lt, p.homes h has, p.words_are, p.room, p.control, p.arguments, p.top)))))
      (omega (arith, from, to, four, lt, p.words_are, p.room, p.control, p.arguments, p.top)) hidden

  argument_free : (a : Addr) → is_argument_of args a ≡ true → IsFree hs (λ i. (is_home_byte hs fp i || outer i) ≡ true) (add32 a.offset ap_at)
  argument_free a e j lt hidden =
      let q = and_parts (is_none a.name) (nat_le 4 a.offset && (nat_le a.offset (4 * args) && (a.offset % 4 == 0))) e in
      let r = and_parts (nat_le 4 a.offset) (nat_le a.offset (4 * args) && (a.offset % 4 == 0)) q.1 in
      let s = and_parts (nat_le a.offset (4 * args)) (a.offset % 4 == 0) r.1 in
      let from = leb-true 4 a.offset r.0 in
      let to = leb-true a.offset (4 * args) s.0 in
      not_hidden (add32 a.offset ap_at - 2139095040 + j)
      (λ h has ge le. omega (arith, from, to, ge, le, lt, p.homes h has, p.words_are, p.room, p.control, p.arguments, p.top))
      (omega (arith, from, to, lt, p.words_are, p.room, p.control, p.arguments, p.top)) hidden

  laid : AreLaid hs (λ i. (is_home_byte hs fp i || outer i) ≡ true) fp ap_at args low
  laid = record {
    bottom = λ h has. omega (arith, p.homes h has, p.words_are, p.room);
    top = omega (arith, p.control, p.arguments, p.top);
    homes = λ h j has lt. or_left (is_home_byte hs fp (word_place fp h.local + j)) (outer (word_place fp h.local + j))
        (home_byte hs fp (word_place fp h.local + j) h has (omega arith) (omega (arith, lt)));
    words = word_free;
    arguments = argument_free;
    below = λ a le j lt hidden. not_hidden (a - 2139095040 + j)
        (λ h has ge to. omega (arith, ge, to, lt, le, p.homes h has, p.words_are, p.room))
        (omega (arith, lt, le, p.words_are, p.room, p.control, p.arguments)) hidden;
  }

pub pieces_are_laid : PiecesAreLaid
pieces_are_laid hs outer fp ap_at args words low high paired p above = laid hs outer fp ap_at args words low high paired p above
