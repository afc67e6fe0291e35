-- Where the bytes of homes lie.
use Rattle.std.proofs.Common.{◌≡◌, ◌⊎◌, inl, inr, ⊎_elim, ℕ, ◌+◌, ◌-◌, ◌*◌, ◌<◌, ◌≤◌, Bool, true, false, List, [], ◌∷◌, refl, sym, ap, ◌∙◌, arith}
use Rattle.std.specs.Prelude.{◌&&◌, ◌||◌, nat_le, nat_lt}
use Rattle.std.proofs.lemmas.Bool.{and_parts, leb-true, ltb-true, false≢true}
use Rattle.std.proofs.lemmas.List.{same_from_push}
use Rattle.vax_states.specs.tree_core.specs.declared.program.Object.{Object}
use Rattle.vax_states.specs.tree_meaning.specs.State.{Activation, Extent}
use Rattle.vax_states.specs.tree_meaning.specs.State.{State as Trees}
use Rattle.vax_states.specs.vax_machine_lists.specs.vax_core.specs.declared.register.Reg.TheVariants.{Ap, Fp}
use Rattle.vax_states.specs.vax_machine_live.specs.declared.frame.Frame.{Frame}
use Rattle.vax_states.specs.vax_machine.specs.State.{State, reg}
use Rattle.vax_states.specs.Stack.{Hold, nobody, caller}
use Rattle.vax_states.proofs.Pieces.{low_fp, fp_high}
use Rattle.vax_homes_law.specs.vax_homes.specs.declared.choose.Home.{Home}
use Rattle.vax_homes_law.specs.Alike.{Has, word_place}
use Rattle.vax_homes_law.specs.Laying.{is_home_byte}
use Rattle.vax_homes_law.specs.Calling.{SameStacks}
use Rattle.vax_homes_frames.specs.Live.{HomedCall, frames_of, is_waiting_byte, AreWaiting, AllAtHome}

pub or_true : (a b : Bool) → (a || b) ≡ true → (a ≡ true) ⊎ (b ≡ true)
or_true true b e = inl refl
or_true false b e = inr e

-- a call's homes lie where all their words do: from an address on, and below fp
pub home_lies : (hs : List Home) (fp low i : ℕ) → ((h : Home) → Has hs h → low + 4 * (h.local + 1) ≤ fp) → is_home_byte hs fp i ≡ true → low ≤ 2139095040 + i
home_lies [] fp low i within e = absurd (false≢true e)
home_lies (h ∷ hs) fp low i within e =
    ⊎_elim
    (λ here. let p = and_parts (nat_le (word_place fp h.local) i) (nat_lt i (word_place fp h.local + 4)) here in
    let from = leb-true (word_place fp h.local) i p.0 in
    let inside = within h (inl refl) in
    omega (arith, from, inside))
    (λ more. home_lies hs fp low i (λ g has. within g (inr has)) more)
    (or_true (nat_le (word_place fp h.local) i && nat_lt i (word_place fp h.local + 4)) (is_home_byte hs fp i) e)

pub home_below : (hs : List Home) (fp i : ℕ) → ((h : Home) → Has hs h → 2139095040 + 4 * (h.local + 1) ≤ fp) → is_home_byte hs fp i ≡ true → i < fp - 2139095040
home_below [] fp i within e = absurd (false≢true e)
home_below (h ∷ hs) fp i within e =
    ⊎_elim
    (λ here. let p = and_parts (nat_le (word_place fp h.local) i) (nat_lt i (word_place fp h.local + 4)) here in
    let to = ltb-true i (word_place fp h.local + 4) p.1 in
    let inside = within h (inl refl) in
    omega (arith, to, inside))
    (λ more. home_below hs fp i (λ g has. within g (inr has)) more)
    (or_true (nat_le (word_place fp h.local) i && nat_lt i (word_place fp h.local + 4)) (is_home_byte hs fp i) e)

-- the homes of suspended calls lie in their pieces
pub waiting_lies : (stack : List ℕ) (cs : List HomedCall) (inside : Frame) (frames : List Frame) (es : List Extent) (xs : List Activation) (low i : ℕ) → Hold stack frames es xs low
    → frames ≡ frames_of cs → AreWaiting inside cs es xs → is_waiting_byte cs i ≡ true → low ≤ 2139095040 + i
waiting_lies stack [] inside frames es xs low i h eq w e = absurd (false≢true e)
waiting_lies stack (c ∷ cs) inside frames es xs low i nobody eq w e = absurd w
waiting_lies stack (c ∷ cs) inside frames es xs low i (caller outer all f ext rest_e a rest low' high p here outside) eq w e =
    let same = same_from_push outer (frames_of cs) f c.frame (sym p ∙ eq) in
    let fp_is : f.fp ≡ c.frame.fp = ap (λ (x : Frame). x.fp) same.1 in
    let up = fp_high stack f ext a low high here in
    let down = low_fp stack f ext a low high here in
    ⊎_elim
    (λ own. home_lies c.homes c.frame.fp low i (λ h has. let lt = w.0.fits h has in omega (arith, lt, here.words, here.locals, fp_is)) own)
    (λ more. let le = waiting_lies stack cs c.frame outer rest_e rest high i outside same.0 w.1 more in omega (arith, le, up, down))
    (or_true (is_home_byte c.homes c.frame.fp i) (is_waiting_byte cs i) e)

-- ---- of a machine at home

module _ (objects : List Object) (e : Extent) (es : List Extent) (c : HomedCall) (cs : List HomedCall) (t : Trees) (m : State) (st : List ℕ) (h : AllAtHome objects e es c cs t m st) where
  -- the frames are those of the state that stands for the tree state
  pub frames_same : (h.home.agrees.outer ≡ frames_of cs) × (h.home.agrees.innermost ≡ c.frame)
  frames_same = same_from_push h.home.agrees.outer (frames_of cs) h.home.agrees.innermost c.frame (sym h.home.agrees.frames ∙ h.frames)

  pub fp_same : reg m Fp ≡ c.frame.fp
  fp_same = h.home.agrees.fp ∙ ap (λ (x : Frame). x.fp) frames_same.1

  pub ap_same : reg m Ap ≡ c.frame.ap
  ap_same = h.home.agrees.ap ∙ ap (λ (x : Frame). x.ap) frames_same.1

  -- the hidden bytes: its own homes' and those of the suspended calls
  abbrev pub hidden : ℕ → Bool
  hidden i = is_home_byte c.homes (reg m Fp) i || is_waiting_byte cs i

  pub stacks_same : SameStacks (λ i. hidden i ≡ true) m.stack st
  stacks_same = record { old_size = h.home.agrees.sound.stack; new_size = h.home.alike.whole; same = h.home.alike.same }

  -- its own homes are words of its frame
  pub own_lies : (low i : ℕ) → low ≤ reg m Fp - 4 * e.words → is_home_byte c.homes (reg m Fp) i ≡ true → low ≤ 2139095040 + i
  own_lies low i le is =
      home_lies c.homes (reg m Fp) low i
      (λ k has. let lt = h.home.fits k has in omega (arith, lt, le, h.home.agrees.running.words, h.home.agrees.running.locals, h.home.agrees.fp)) is

  pub own_below : (i : ℕ) → is_home_byte c.homes (reg m Fp) i ≡ true → i < reg m Fp - 2139095040
  own_below i is =
      home_below c.homes (reg m Fp) i
      (λ k has. let lt = h.home.fits k has in omega (arith, lt, h.home.agrees.bottom, h.home.agrees.running.words, h.home.agrees.running.locals, h.home.agrees.fp)) is
