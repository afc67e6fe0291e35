-- How much of the code is left behind a place, and behind the places at which the live calls go on: each step that is not counted leaves less.
use Rattle.std.proofs.Common.{◌≡◌, ℕ, ◌+◌, ◌-◌, ◌*◌, ◌<◌, ◌≤◌, Bool, true, false, cond, List, [], ◌∷◌, ◌++◌, length, Option, Some, None, refl, ap, ◌∙◌, arith}
use Rattle.std.specs.Prelude.{nat_lt}
use Rattle.std.proofs.lemmas.Bool.{lt-ltb, le-ltb, ltb-true}
use Rattle.std.proofs.lemmas.List.{length_push}
use Rattle.vax_machine_live.specs.declared.frame.Frame.{Frame}
use Rattle.vax_machine.specs.State.{State}
use Rattle.vax_bound.specs.Counted.{counted_by, counted_between}
use Rattle.vax_bound.proofs.Moving.{Moves, stays, goes_in, goes_back, Moved}

abbrev pub room_behind : ℕ → Option ℕ → ℕ
room_behind len None = 0
room_behind len (Some place) = len - place

abbrev pub rooms : ℕ → List Frame → ℕ
rooms len [] = 0
rooms len (f ∷ fs) = room_behind len f.back + rooms len fs

-- in a code of so many items
abbrev pub room : ℕ → State → ℕ
room len m = len - m.place + rooms len m.frames

rooms_push : (len : ℕ) (fs : List Frame) (f : Frame) → rooms len (fs ++ f ∷ []) ≡ rooms len fs + room_behind len f.back
rooms_push len [] f = omega arith
rooms_push len (g ∷ fs) f = omega (arith, rooms_push len fs f)

rooms_with : (len : ℕ) (all fs : List Frame) (f : Frame) (place : ℕ) → all ≡ fs ++ f ∷ [] → f.back ≡ Some place → rooms len all ≡ rooms len fs + (len - place)
rooms_with len all fs f place e at = ap (rooms len) e ∙ rooms_push len fs f ∙ ap (λ (o : Option ℕ). rooms len fs + room_behind len o) at

-- ---- what is counted

pub counted_inside : (k p q : ℕ) → counted_by k k p q ≡ cond (nat_lt p q) 0 1
counted_inside k p q = ap (λ (b : Bool). cond b 1 (cond b 0 (cond (nat_lt p q) 0 1))) (le-ltb k k (omega arith))

pub counted_call : (k l p q : ℕ) → k < l → counted_by k l p q ≡ 1
counted_call k l p q lt = ap (λ (b : Bool). cond b 1 (cond (nat_lt l k) 0 (cond (nat_lt p q) 0 1))) (lt-ltb k l lt)

-- ---- the numbers of one step: of items, the places, what the frames leave, what is counted

less_inside : (len p q r s c : ℕ) → p < len → r ≡ s → (b : Bool) → nat_lt p q ≡ b → c ≡ cond b 0 1 → len - q + r + 1 ≤ len - p + s + len * c
less_inside len p q r s c lt same true e is = let further : p < q = ltb-true p q e in omega (arith, lt, same, further)
less_inside len p q r s c lt same false e is = let all : len * c ≡ len * 1 = ap (λ (x : ℕ). len * x) is in omega (arith, lt, same, all)

less_called : (len p q back r s c : ℕ) → p < len → p < back → r ≡ s + (len - back) → c ≡ 1 → len - q + r + 1 ≤ len - p + s + len * c
less_called len p q back r s c lt further is one = let all : len * c ≡ len * 1 = ap (λ (x : ℕ). len * x) one in omega (arith, lt, further, is, all)

less_returned : (len p q r s c : ℕ) → p < len → s ≡ r + (len - q) → len - q + r + 1 ≤ len - p + s + len * c
less_returned len p q r s c lt is = omega (arith, lt, is)

-- each step leaves less, but for what is counted
pub leaves_less : (m n : State) → Moved m n → room (length m.items) n + 1 ≤ room (length m.items) m + length m.items * counted_between m n
leaves_less m n h = by h.how
  where
    by : Moves m n → room (length m.items) n + 1 ≤ room (length m.items) m + length m.items * counted_between m n
    by (stays e) =
        less_inside (length m.items) m.place n.place (rooms (length m.items) n.frames) (rooms (length m.items) m.frames) (counted_between m n) h.inside (ap (rooms (length m.items)) e)
        (nat_lt m.place n.place) refl
        (ap (λ (k : ℕ). counted_by (length m.frames) k m.place n.place) (ap length e) ∙ counted_inside (length m.frames) m.place n.place)
    by (goes_in f back e at further) =
        let one_more : length n.frames ≡ length m.frames + 1 = ap length e ∙ length_push m.frames f in
        less_called (length m.items) m.place n.place back (rooms (length m.items) n.frames) (rooms (length m.items) m.frames) (counted_between m n) h.inside further
        (rooms_with (length m.items) n.frames m.frames f back e at) (counted_call (length m.frames) (length n.frames) m.place n.place (omega (arith, one_more)))
    by (goes_back f e at) =
        less_returned (length m.items) m.place n.place (rooms (length m.items) n.frames) (rooms (length m.items) m.frames) (counted_between m n) h.inside
        (rooms_with (length m.items) m.frames n.frames f n.place e at)
