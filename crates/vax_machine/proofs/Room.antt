-- The control words of a call have room in the stack, and none of them is a live frame's.
use Rattle.std.proofs.Common.{◌≡◌, ℕ, zero, suc, ◌+◌, ◌-◌, ◌*◌, ◌%◌, ◌<◌, ◌≤◌, Bool, true, false, cond, List, [], ◌∷◌, length, Result, Ok, Err, refl, sym, ap, subst, ◌∙◌, arith}
use Rattle.std.proofs.Common.{lt-ltb, true≢false, length-set, get_or-set_same}
use Rattle.std.specs.Prelude.{nat_lt, nat_le, ◌&&◌, ◌||◌}
use Rattle.std.proofs.lemmas.Bool.{ltb-true, ltb-false, and_parts, leb-true, or_parts, false_from_ne_true}
use Rattle.gg_base.specs.declared.size.Size.TheVariants.{Long}
use Rattle.gg_base.specs.Arithmetic.{sub32}
use Rattle.gg_base.proofs.Facts.{err_ok, ok_same}
use Rattle.vax_core.specs.declared.register.Reg.TheVariants.{Sp}
use Rattle.vax_machine_live.specs.declared.frame.Frame.{Frame}
use Rattle.vax_machine_live.specs.Control.{overlaps, in_control}
use Rattle.vax_machine_live.specs.Owners.{HasRoom}
use Rattle.vax_machine.specs.declared.turn.Stop.{Stop}
use Rattle.vax_machine.specs.declared.memory.Region.{Region}
use Rattle.vax_machine.specs.declared.memory.Region.TheVariants as regions
use Rattle.vax_machine.specs.State.{State, reg, with_reg, access, frame, stack_full, ◌>>=◌}
use Rattle.vax_machine.specs.Memory.{touched, register_set}
use Rattle.vax_machine.specs.Calls.{reserved, all_reserved}

not_both : (x y : Bool) → (x && y) ≡ false → x ≡ true → y ≡ true → ⊥
not_both true true e f g = true≢false e
not_both true false e f g = true≢false (sym g)
not_both false y e f g = true≢false (sym f)

-- where no byte of a longword is a control word, each one is none
each_byte : (frames : List Frame) (a address : ℕ) → a ≤ address → address < a + 4 → in_control frames a 4 ≡ false → in_control frames address 1 ≡ false
each_byte [] a address low high e = refl
each_byte (f ∷ fs) a address low high e =
    let p = or_parts (overlaps f a 4) (in_control fs a 4) e in
    let here : overlaps f address 1 ≡ false =
    false_from_ne_true (overlaps f address 1) (λ h.
    let q = and_parts (nat_lt f.fp (address + 1)) (nat_lt address f.top) h in
    let over : f.fp < address + 1 = ltb-true f.fp (address + 1) q.0 in
    let under : address < f.top = ltb-true address f.top q.1 in
    not_both (nat_lt f.fp (a + 4)) (nat_lt a f.top) p.0 (lt-ltb f.fp (a + 4) (omega arith)) (lt-ltb a f.top (omega arith))) in
    ap (λ (b : Bool). b || in_control fs address 1) here ∙ each_byte fs a address low high p.1

-- a machine's state: 15 registers, and a data area that doesn't reach the stack
pub record IsWhole (m : State) : Type 0 where
  pub registers : length m.registers ≡ 15
  pub area : length m.area ≤ 1048576

-- what so many reserved longwords leave: sp is lower by 4 for each, and no byte above it up to where it was is a control word
record Reserved (m n : State) (count : ℕ) : Type 0 where
  frames : n.frames ≡ m.frames
  whole : IsWhole n
  lowered : reg n Sp + 4 * count ≡ reg m Sp
  low : 2139095040 ≤ reg n Sp
  high : 0 < count → reg m Sp ≤ 2147483648
  free : (address : ℕ) → reg n Sp ≤ address → address < reg m Sp → in_control m.frames address 1 ≡ false

-- sp as it was set
set_sp : (m n : State) (v : ℕ) → IsWhole m → register_set m Sp v ≡ Ok n → (2139095040 ≤ v) × (n ≡ with_reg m Sp v)
unfolding register_set
set_sp m n v whole e = by (nat_lt v 2139095040) refl e
  where
    by : (b : Bool) → nat_lt v 2139095040 ≡ b → cond b (Err stack_full) (Ok (with_reg m Sp v)) ≡ Ok n → (2139095040 ≤ v) × (n ≡ with_reg m Sp v)
    by true h e = absurd (err_ok stack_full n e)
    by false h e = (ltb-false v 2139095040 h, sym (ok_same (with_reg m Sp v) n e))

sp_is : (m : State) (v : ℕ) → IsWhole m → reg (with_reg m Sp v) Sp ≡ v
sp_is m v whole =
    let lt : 14 < length m.registers = omega (arith, whole.registers) in
    get_or-set_same m.registers 14 v 0 lt

still_whole : (m : State) (v : ℕ) → IsWhole m → IsWhole (with_reg m Sp v)
still_whole m v whole = record { registers = length-set m.registers 14 v ∙ whole.registers; area = whole.area }

-- a longword from the stack's bottom on may be touched only where it lies in the stack and no byte of it is a control word
record Touchable (frames : List Frame) (a : ℕ) : Type 0 where
  high : a + 4 ≤ 2147483648
  free : in_control frames a 4 ≡ false

in_stack : (frames : List Frame) (a : ℕ) (b c : Bool) (r : Region) → nat_le (a + 4) 2147483648 ≡ b → in_control frames a 4 ≡ c
    → cond (nat_le 2139095040 a && b) (cond c (Err frame) (Ok (regions.Stack (a - 2139095040)))) (Err access) ≡ Ok r → Touchable frames a
in_stack frames a b c r e f h = by (nat_le 2139095040 a) b c e f h
  where
    by : (p b c : Bool) → nat_le (a + 4) 2147483648 ≡ b → in_control frames a 4 ≡ c → cond (p && b) (cond c (Err frame) (Ok (regions.Stack (a - 2139095040)))) (Err access) ≡ Ok r → Touchable frames a
    by true true false e f h = record { high = leb-true (a + 4) 2147483648 e; free = f }
    by true true true e f h = absurd (err_ok frame r h)
    by true false c e f h = absurd (err_ok access r h)
    by false b c e f h = absurd (err_ok access r h)

above_area : (a size : ℕ) → size ≤ 1048576 → 2139095040 ≤ a → nat_le (a + 4) (65536 + size) ≡ false
above_area a size small low = false_from_ne_true (nat_le (a + 4) (65536 + size)) (λ h. let le : a + 4 ≤ 65536 + size = leb-true (a + 4) (65536 + size) h in omega arith)

out_of_area : (p q : Bool) (A : Type 0) (x y z : A) → q ≡ false → cond (p && q) x y ≡ z → y ≡ z
out_of_area true true A x y z e h = absurd (true≢false e)
out_of_area true false A x y z e h = h
out_of_area false q A x y z e h = h

touchable : (m : State) (a : ℕ) (r : Region) → IsWhole m → 2139095040 ≤ a → touched m a Long ≡ Ok r → Touchable m.frames a
unfolding touched
touchable m a r whole low e =
    in_stack m.frames a (nat_le (a + 4) 2147483648) (in_control m.frames a 4) r refl refl
    (out_of_area (nat_le 65536 a) (nat_le (a + 4) (65536 + length m.area)) (Result Region Stop) _ _ _ (above_area a (length m.area) whole.area low) e)

one_by : (m : State) (k : State) (sp : ℕ) (t : Result State Stop) → IsWhole m → 2139095040 ≤ reg m Sp → reg m Sp < 4294967296 → sp ≡ sub32 (reg m Sp) 4
    → register_set m Sp sp ≡ t → (t >>= λ (n : State). touched n sp Long >>= λ (r : Region). Ok n) ≡ Ok k → Reserved m k 1
one_by m k sp (Err e) whole low fits is set done = absurd (err_ok e k done)
one_by m k sp (Ok n) whole low fits is set done = by (touched n sp Long) refl done
  where
    by : (t : Result Region Stop) → touched n sp Long ≡ t → (t >>= λ (r : Region). Ok n) ≡ Ok k → Reserved m k 1
    by (Err e) touch done = absurd (err_ok e k done)
    by (Ok r) touch done =
        let s = set_sp m n sp whole set in
        let lowered : sp + 4 ≡ reg m Sp = omega (arith, is, low, fits, s.0) in
        let t : Touchable m.frames sp = touchable (with_reg m Sp sp) sp r (still_whole m sp whole) s.0 (ap (λ (x : State). touched x sp Long) (sym s.1) ∙ touch) in
        let is_k : with_reg m Sp sp ≡ k = sym s.1 ∙ ok_same n k done in
        subst (λ (x : State). Reserved m x 1) is_k (record {
          frames = refl;
          whole = still_whole m sp whole;
          lowered = ap (λ (v : ℕ). v + 4) (sp_is m sp whole) ∙ lowered;
          low = subst (λ (v : ℕ). 2139095040 ≤ v) (sym (sp_is m sp whole)) s.0;
          high = λ some. omega (arith, lowered, t.high);
          free = λ address from to. each_byte m.frames sp address (subst (λ (v : ℕ). v ≤ address) (sp_is m sp whole) from) (omega (arith, lowered, to)) t.free;
        })

one_reserved : (m n : State) → IsWhole m → 2139095040 ≤ reg m Sp → reg m Sp < 4294967296 → reserved m ≡ Ok n → Reserved m n 1
unfolding reserved
one_reserved m n whole low fits e = one_by m n (sub32 (reg m Sp) 4) (register_set m Sp (sub32 (reg m Sp) 4)) whole low fits refl refl e

further : (m n k : State) (count : ℕ) → Reserved m n 1 → Reserved n k count → Reserved m k (suc count)
further m n k count h g =
    let here = h.lowered in
    let there = g.lowered in
    record {
      frames = g.frames ∙ h.frames;
      whole = g.whole;
      lowered = omega (arith, here, there);
      low = g.low;
      high = λ some. h.high (omega arith);
      free = λ address from to. by (nat_lt address (reg n Sp)) address from to refl;
    }
  where
    by : (b : Bool) (address : ℕ) → reg k Sp ≤ address → address < reg m Sp → nat_lt address (reg n Sp) ≡ b → in_control m.frames address 1 ≡ false
    by true address from to e = ap (λ (x : List Frame). in_control x address 1) (sym h.frames) ∙ g.free address from (ltb-true address (reg n Sp) e)
    by false address from to e = h.free address (ltb-false address (reg n Sp) e) to

all_by : (m n : State) (count : ℕ) (t : Result State Stop) → IsWhole m → 2139095040 ≤ reg m Sp → reg m Sp < 4294967296 → reserved m ≡ t → (t >>= λ (x : State). all_reserved count x) ≡ Ok n
    → ((k : State) → IsWhole k → 2139095040 ≤ reg k Sp → reg k Sp < 4294967296 → all_reserved count k ≡ Ok n → Reserved k n count) → Reserved m n (suc count)
all_by m n count (Err e) whole low fits one done rest = absurd (err_ok e n done)
all_by m n count (Ok k) whole low fits one done rest =
    let r = one_reserved m k whole low fits one in
    let lowered = r.lowered in
    further m k n count r (rest k r.whole r.low (omega (arith, lowered, fits)) done)

all_are : (count : ℕ) (m n : State) → IsWhole m → 2139095040 ≤ reg m Sp → reg m Sp < 4294967296 → all_reserved count m ≡ Ok n → Reserved m n count
all_are zero m n whole low fits e = subst (λ (x : State). Reserved m x 0) (ok_same m n e) none
  where
    none : Reserved m m 0
    none = record {
      frames = refl;
      whole = whole;
      lowered = omega arith;
      low = low;
      high = λ some. absurd (omega (arith, some));
      free = λ address from to. absurd (omega (arith, from, to));
    }
all_are (suc count) m n whole low fits e = all_by m n count (reserved m) whole low fits refl e (λ k. all_are count k n)

pub has_room : (m n k : State) (top count : ℕ) → IsWhole m → top < 4294967296 → top % 4 ≡ 0 → 1 ≤ count → register_set m Sp top ≡ Ok n → all_reserved count n ≡ Ok k → HasRoom k.frames (reg k Sp) top
has_room m n k top count whole fits aligned some set done =
    let s = set_sp m n top whole set in
    let at_top : reg n Sp ≡ top = ap (λ (x : State). reg x Sp) s.1 ∙ sp_is m top whole in
    let whole_n : IsWhole n = subst IsWhole (sym s.1) (still_whole m top whole) in
    let r : Reserved n k count = all_are count n k whole_n (omega (arith, at_top, s.0)) (omega (arith, at_top, fits)) done in
    let lowered = r.lowered in
    let low = r.low in
    record {
      low = low;
      long = omega (arith, lowered, at_top, some);
      high = omega (arith, r.high some, at_top);
      begins = omega (arith, lowered, at_top, aligned);
      ends = aligned;
      free = λ address from to. ap (λ (x : List Frame). in_control x address 1) r.frames ∙ r.free address from (omega (arith, at_top, to));
    }
