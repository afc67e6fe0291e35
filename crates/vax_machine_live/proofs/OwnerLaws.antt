-- Which frame a byte of the stack belongs to.
use Rattle.std.proofs.Common.{◌≡◌, ℕ, zero, suc, ◌+◌, ◌-◌, ◌*◌, ◌/◌, ◌<◌, ◌≤◌, Bool, true, false, List, [], ◌∷◌, ◌++◌, length, take, ◌⊎◌, inl, inr, refl, sym, ap, subst, ◌∙◌}
use Rattle.std.proofs.Common.{arith, lt-ltb, true≢false}
use Rattle.std.specs.Prelude.{◌&&◌, ◌||◌, Some, None, slice_get, slice_index, nat_lt}
use Rattle.std.proofs.lemmas.Bool.{ltb-true, ltb-false, le-ltb, and_parts, or_right, or_left, false_from_ne_true}
use Rattle.std.proofs.lemmas.Option.{same_Some, none-some}
use Rattle.vax_machine_live.specs.declared.frame.Frame.{Frame}
use Rattle.vax_machine_live.specs.Control.{overlaps, in_control}
use Rattle.vax_machine_live.specs.Owners.{IsOwned, AreOwned, HasRoom, Gives}

byte_is : (f : Frame) (address : ℕ) → f.fp ≤ address → address < f.top → overlaps f address 1 ≡ true
byte_is f address low high = rw (lt-ltb f.fp (address + 1) (omega arith), lt-ltb address f.top high) refl

record Inside (f : Frame) (address : ℕ) : Type 0 where
  low : f.fp ≤ address
  high : address < f.top

byte_lies : (f : Frame) (address : ℕ) → overlaps f address 1 ≡ true → Inside f address
byte_lies f address h =
    let p = and_parts (nat_lt f.fp (address + 1)) (nat_lt address f.top) h in
    let low : f.fp < address + 1 = ltb-true f.fp (address + 1) p.0 in
    record { low = omega arith; high = ltb-true address f.top p.1 }

-- a byte of a live frame is found
pub found : (frames : List Frame) (number address : ℕ) (f : Frame) → slice_get frames number ≡ Some f → overlaps f address 1 ≡ true → in_control frames address 1 ≡ true
found [] number address f e h = absurd (none-some f e)
found (g ∷ gs) zero address f e h =
    or_left (overlaps g address 1) (in_control gs address 1) (ap (λ (x : Frame). overlaps x address 1) (same_Some g f e) ∙ h)
found (g ∷ gs) (suc n) address f e h = or_right (overlaps g address 1) (in_control gs address 1) (found gs n address f e h)

-- a byte of a control word lies in a frame
pub record LiesIn (frames : List Frame) (address : ℕ) : Type 0 where
  pub number : ℕ
  pub frame : Frame
  pub there : slice_get frames number ≡ Some frame
  pub inside : overlaps frame address 1 ≡ true

lies_by : (b : Bool) (g : Frame) (gs : List Frame) (address : ℕ) → overlaps g address 1 ≡ b → (b || in_control gs address 1) ≡ true → (in_control gs address 1 ≡ true → LiesIn gs address)
    → LiesIn (g ∷ gs) address
lies_by true g gs address e h rest = record { number = 0; frame = g; there = refl; inside = e }
lies_by false g gs address e h rest =
    let r = rest h in
    record { number = suc r.number; frame = r.frame; there = r.there; inside = r.inside }

pub lies : (frames : List Frame) (address : ℕ) → in_control frames address 1 ≡ true → LiesIn frames address
lies [] address h = absurd (true≢false (sym h))
lies (g ∷ gs) address h = lies_by (overlaps g address 1) g gs address refl h (lies gs address)

-- each byte of a frame belongs to the frame
owner_is : (owners : List ℕ) (number address : ℕ) (f : Frame) → IsOwned owners number f → address < 2147483648 → overlaps f address 1 ≡ true → slice_index owners ((2147483647 - address) / 4) ≡ number
owner_is owners number address f kept high inside =
    let p = byte_lies f address inside in
    let k = kept.aligned in
    let from : f.fp + 4 * ((2147483647 - address) / 4 + 1) ≤ 2147483648 = omega (arith, p.low, k, high) in
    let to : 2147483648 < f.top + 4 * ((2147483647 - address) / 4 + 1) = omega (arith, p.high, high) in
    kept.owned ((2147483647 - address) / 4) from to

-- a byte below all owners is no frame's
pub owned_by_nobody : (frames : List Frame) (owners : List ℕ) (address : ℕ) → AreOwned frames owners → address < 2147483648 → length owners ≤ (2147483647 - address) / 4
    → false ≡ in_control frames address 1
owned_by_nobody frames owners address kept high past =
    sym (false_from_ne_true (in_control frames address 1) (λ h.
    let l = lies frames address h in
    let p = byte_lies l.frame address l.inside in
    let k = (kept.each l.number l.frame l.there).kept in
    absurd (omega (arith, p.low, k, high, past))))

-- the two answers of a look at a byte's owner
pub owned_by_none : (frames : List Frame) (owners : List ℕ) (address number : ℕ) → AreOwned frames owners → address < 2147483648 → slice_index owners ((2147483647 - address) / 4) ≡ number
    → slice_get frames number ≡ None → false ≡ in_control frames address 1
owned_by_none frames owners address number kept high e none =
    sym (false_from_ne_true (in_control frames address 1) (λ h.
    let l = lies frames address h in
    let same : number ≡ l.number = sym e ∙ owner_is owners l.number address l.frame (kept.each l.number l.frame l.there) high l.inside in
    none-some l.frame (sym none ∙ ap (λ (k : ℕ). slice_get frames k) same ∙ l.there)))

pub owned_by : (frames : List Frame) (owners : List ℕ) (address number : ℕ) (f : Frame) → AreOwned frames owners → address < 2147483648 → slice_index owners ((2147483647 - address) / 4)
    ≡ number → slice_get frames number ≡ Some f → overlaps f address 1 ≡ in_control frames address 1
owned_by frames owners address number f kept high e there = by (overlaps f address 1) refl
  where
    by : (b : Bool) → overlaps f address 1 ≡ b → b ≡ in_control frames address 1
    by true is = sym (found frames number address f there is)
    by false is =
        sym (false_from_ne_true (in_control frames address 1) (λ h.
        let l = lies frames address h in
        let same : number ≡ l.number = sym e ∙ owner_is owners l.number address l.frame (kept.each l.number l.frame l.there) high l.inside in
        let frame : f ≡ l.frame = same_Some f l.frame (sym there ∙ ap (λ (k : ℕ). slice_get frames k) same ∙ l.there) in
        true≢false (sym l.inside ∙ ap (λ (x : Frame). overlaps x address 1) (sym frame) ∙ is)))

-- a few bytes are control words where the first or the last one is, since a frame has at least 4 bytes
both_false : (r s : Bool) → ((true && false) || (s && false)) ≡ (r && false)
both_false true true = refl
both_false true false = refl
both_false false true = refl
both_false false false = refl

ends_by : (f : Frame) (a k : ℕ) → f.fp + 4 ≤ f.top → 1 ≤ k → k ≤ 4 → (overlaps f a 1 || overlaps f (a + (k - 1)) 1) ≡ overlaps f a k
ends_by f a k long some few = by (nat_lt f.fp (a + 1)) (nat_lt a f.top) (nat_lt f.fp (a + k)) refl refl refl
  where
    last : a + (k - 1) + 1 ≡ a + k
    last = omega arith

    by : (p q r : Bool) → nat_lt f.fp (a + 1) ≡ p → nat_lt a f.top ≡ q → nat_lt f.fp (a + k) ≡ r → (overlaps f a 1 || overlaps f (a + (k - 1)) 1) ≡ overlaps f a k
    by true true true e g h = rw (e, g, h) refl
    by true true false e g h =
        let lt : f.fp < a + 1 = ltb-true f.fp (a + 1) e in
        let le : a + k ≤ f.fp = ltb-false f.fp (a + k) h in
        absurd (omega arith)
    by true false r e g h =
        let le : f.top ≤ a = ltb-false a f.top g in
        let out : nat_lt (a + (k - 1)) f.top ≡ false = le-ltb (a + (k - 1)) f.top (omega arith) in
        rw (e, g, h, out) (both_false r (nat_lt f.fp (a + (k - 1) + 1)))
    by false q true e g h =
        let le : a + 1 ≤ f.fp = ltb-false f.fp (a + 1) e in
        let lt : f.fp < a + k = ltb-true f.fp (a + k) h in
        let one : nat_lt a f.top ≡ true = lt-ltb a f.top (omega arith) in
        let two : nat_lt (a + (k - 1)) f.top ≡ true = lt-ltb (a + (k - 1)) f.top (omega arith) in
        rw (e, one, two, last, h) refl
    by false q false e g h = rw (e, last, h) refl

shuffle : (a b c d : Bool) → ((a || b) || (c || d)) ≡ ((a || c) || (b || d))
shuffle true b true d = refl
shuffle true b false d = refl
shuffle false true true d = refl
shuffle false true false d = refl
shuffle false false true d = refl
shuffle false false false d = refl

both_by : (frames : List Frame) (a k : ℕ) → 1 ≤ k → k ≤ 4 → ((n : ℕ) (f : Frame) → slice_get frames n ≡ Some f → f.fp + 4 ≤ f.top)
    → (in_control frames a 1 || in_control frames (a + (k - 1)) 1) ≡ in_control frames a k
both_by [] a k some few long = refl
both_by (f ∷ fs) a k some few long =
    shuffle (overlaps f a 1) (in_control fs a 1) (overlaps f (a + (k - 1)) 1) (in_control fs (a + (k - 1)) 1)
    ∙ ap (λ (x : Bool). x || (in_control fs a 1 || in_control fs (a + (k - 1)) 1)) (ends_by f a k (long 0 f refl) some few)
    ∙ ap (λ (x : Bool). overlaps f a k || x) (both_by fs a k some few (λ n. long (suc n)))

pub both_ends : (frames : List Frame) (owners : List ℕ) (a k : ℕ) → AreOwned frames owners → 1 ≤ k → k ≤ 4 → (in_control frames a 1 || in_control frames (a + (k - 1)) 1) ≡ in_control frames a k
both_ends frames owners a k kept some few = both_by frames a k some few (λ n f e. (kept.each n f e).long)

-- a look at the first byte, and at the last one where the first is none
pub first_is : (slice frames now : List Frame) (a k : ℕ) (r : Bool) (owners : List ℕ) → AreOwned frames owners → 1 ≤ k → k ≤ 4 → slice ≡ frames → frames ≡ now → r ≡ in_control slice a 1
    → r ≡ true → r ≡ in_control now a k
first_is slice frames now a k r owners kept some few s v e h =
    let here : in_control frames a 1 ≡ true = ap (λ (x : List Frame). in_control x a 1) (sym s) ∙ sym e ∙ h in
    h
    ∙ sym (or_left (in_control frames a 1) (in_control frames (a + (k - 1)) 1) here)
    ∙ both_ends frames owners a k kept some few
    ∙ ap (λ (x : List Frame). in_control x a k) v

pub last_is : (slice frames now : List Frame) (a k : ℕ) (q r : Bool) (owners : List ℕ) → AreOwned frames owners → 1 ≤ k → k ≤ 4 → slice ≡ frames → frames ≡ now → q ≡ in_control slice a 1
    → q ≡ false → r ≡ in_control slice (a + (k - 1)) 1 → r ≡ in_control now a k
last_is slice frames now a k q r owners kept some few s v e h f =
    let here : in_control frames a 1 ≡ false = ap (λ (x : List Frame). in_control x a 1) (sym s) ∙ sym e ∙ h in
    let there : r ≡ in_control frames (a + (k - 1)) 1 = f ∙ ap (λ (x : List Frame). in_control x (a + (k - 1)) 1) s in
    there
    ∙ sym (ap (λ (x : Bool). x || in_control frames (a + (k - 1)) 1) here)
    ∙ both_ends frames owners a k kept some few
    ∙ ap (λ (x : List Frame). in_control x a k) v

-- ---- one frame less

pub front_get : {A : Type 0} (xs : List A) (n k : ℕ) (x : A) → slice_get (take n xs) k ≡ Some x → slice_get xs k ≡ Some x
front_get [] zero k f e = e
front_get [] (suc n) k f e = e
front_get (g ∷ gs) zero k f e = absurd (none-some f e)
front_get (g ∷ gs) (suc n) zero f e = e
front_get (g ∷ gs) (suc n) (suc k) f e = front_get gs n k f e

pub one_less : (frames : List Frame) (owners : List ℕ) (n : ℕ) → AreOwned frames owners → AreOwned (take n frames) owners
one_less frames owners n kept = record { each = λ k f e. kept.each k f (front_get frames n k f e) }

-- ---- one frame more

at_end : (frames : List Frame) (f g : Frame) (n : ℕ) → slice_get (frames ++ f ∷ []) n ≡ Some g → (slice_get frames n ≡ Some g) ⊎ ((n ≡ length frames) × (f ≡ g))
at_end [] f g zero e = inr (refl, same_Some f g e)
at_end [] f g (suc n) e = absurd (none-some g e)
at_end (h ∷ hs) f g zero e = inl e
at_end (h ∷ hs) f g (suc n) e = by (at_end hs f g n e)
  where
    by : (slice_get hs n ≡ Some g) ⊎ ((n ≡ length hs) × (f ≡ g)) → (slice_get (h ∷ hs) (suc n) ≡ Some g) ⊎ ((suc n ≡ length (h ∷ hs)) × (f ≡ g))
    by (inl x) = inl x
    by (inr x) = inr (ap suc x.0, x.1)

-- a number is below two others, between them, or at least the greater
between : (n a b : ℕ) → (n < a) ⊎ (((a ≤ n) × (n < b)) ⊎ (b ≤ n))
between n a b = by (nat_lt n a) (nat_lt n b) refl refl
  where
    by : (p q : Bool) → nat_lt n a ≡ p → nat_lt n b ≡ q → (n < a) ⊎ (((a ≤ n) × (n < b)) ⊎ (b ≤ n))
    by true q e h = inl (ltb-true n a e)
    by false true e h = inr (inl (ltb-false n a e, ltb-true n b h))
    by false false e h = inr (inr (ltb-false n b h))

-- owners that go on further down
pub further : (frames : List Frame) (old new : List ℕ) → length old ≤ length new → ((place : ℕ) → place < length old → slice_index new place ≡ slice_index old place)
    → AreOwned frames old → AreOwned frames new
further frames old new more same owned = record {
  each = λ number f e.
      let was = owned.each number f e in
      let kept = was.kept in
      record {
        long = was.long;
        aligned = was.aligned;
        kept = omega (arith, kept, more);
        owned = λ place from to. same place (omega (arith, kept, from)) ∙ was.owned place from to;
      };
}

pub one_more : (frames : List Frame) (f : Frame) (old new : List ℕ) → AreOwned frames old → HasRoom frames f.fp f.top → length new ≡ length old → (2147483648 - f.fp) / 4 ≤ length old
    → Gives (length frames) ((2147483648 - f.top) / 4) ((2147483648 - f.fp) / 4) old new → AreOwned (frames ++ f ∷ []) new
one_more frames f old new kept room long reached gives = record { each = λ number g e. by number g (at_end frames f g number e) }
  where
    still : (number : ℕ) (g : Frame) → slice_get frames number ≡ Some g → (place : ℕ) → g.fp + 4 * (place + 1) ≤ 2147483648 → 2147483648 < g.top + 4 * (place + 1)
        → (place < (2147483648 - f.top) / 4) ⊎ ((((2147483648 - f.top) / 4 ≤ place) × (place < (2147483648 - f.fp) / 4)) ⊎ ((2147483648 - f.fp) / 4 ≤ place)) → slice_index new place ≡ number
    still number g there place from to (inl lt) = gives.below place lt ∙ (kept.each number g there).owned place from to
    still number g there place from to (inr (inr le)) = gives.above place le ∙ (kept.each number g there).owned place from to
    still number g there place from to (inr (inl within)) =
        let low = room.low in
        let high = room.high in
        let begins = room.begins in
        let ends = room.ends in
        let address = 2147483648 - 4 * (place + 1) in
        let above : f.fp ≤ address = omega (arith, within.1, low, high, begins) in
        let under : address < f.top = omega (arith, within.0, high, ends, from) in
        let its : g.fp ≤ address = omega (arith, from) in
        let own : address < g.top = omega (arith, to, from) in
        absurd (true≢false (sym (found frames number address g there (byte_is g address its own)) ∙ room.free address above under))

    own : IsOwned new (length frames) f
    own = record {
      long = room.long;
      aligned = room.begins;
      kept = omega (arith, reached, long, room.low, room.begins);
      owned = λ place from to. gives.inside place (omega (arith, to, room.high, room.ends)) (omega (arith, from, room.low, room.begins));
    }

    by : (number : ℕ) (g : Frame) → (slice_get frames number ≡ Some g) ⊎ ((number ≡ length frames) × (f ≡ g)) → IsOwned new number g
    by number g (inl there) = record {
      long = (kept.each number g there).long;
      aligned = (kept.each number g there).aligned;
      kept = subst (λ (n : ℕ). 2147483648 ≤ g.fp + 4 * n) (sym long) (kept.each number g there).kept;
      owned = λ place from to. still number g there place from to (between place ((2147483648 - f.top) / 4) ((2147483648 - f.fp) / 4));
    }
    by number g (inr x) = subst (λ (h : Frame). IsOwned new number h) x.1 (subst (λ (n : ℕ). IsOwned new n f) (sym x.0) own)
