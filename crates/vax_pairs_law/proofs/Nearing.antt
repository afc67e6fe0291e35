-- What two machines do alike whose data, stack, sp and control words are the same: looks at memory, pushes, room for control words.
use Rattle.std.proofs.Common.{◌≡◌, ℕ, zero, suc, ◌<◌, Bool, true, false, cond, List, length, Result, Ok, Err, refl, sym, ap, subst, ◌∙◌, arith, lit<, get_or-set_same, get_or-set_other}
use Rattle.std.proofs.lemmas.List.{length-set, set-set, set-get_or}
use Rattle.std.specs.Prelude.{nat_lt, nat_le, ◌&&◌, ◌+◌, ◌-◌, slice_set, slice_index}
use Rattle.vax_pairs.specs.gg_base.specs.declared.size.Size.{Size}
use Rattle.vax_pairs.specs.gg_base.specs.declared.size.Size.TheVariants.{Long}
use Rattle.vax_pairs.specs.gg_base.specs.Arithmetic.{sub32}
use Rattle.vax_pairs.specs.gg_base.specs.Sizes.{bytes_of}
use Rattle.vax_pairs.specs.gg_base.specs.LittleEndian.{number_in, with_number}
use Rattle.vax_pairs.specs.vax_core.specs.declared.register.Reg.TheVariants.{Sp}
use Rattle.vax_pairs.specs.vax_machine_live.specs.Control.{in_control}
use Rattle.vax_pairs.specs.vax_machine.specs.declared.turn.Stop.{Stop}
use Rattle.vax_pairs.specs.vax_machine.specs.declared.memory.Region.{Region}
use Rattle.vax_pairs.specs.vax_machine.specs.declared.memory.Region.TheVariants as regions
use Rattle.vax_pairs.specs.vax_machine.specs.State.{State, reg, with_reg, stack_full, access, frame, ◌>>=◌}
use Rattle.vax_pairs.specs.vax_machine.specs.Memory.{touched, read, written, register_set, number_at, with_number_at}
use Rattle.vax_pairs.specs.vax_machine.specs.Calls.{pushed, reserved, all_reserved}
use Rattle.vax_alike.proofs.Placing.{SameControl}
use Rattle.vax_pairs.specs.Standing.{Bare, bare}

-- a register below another one that is set
pub set_above : (xs : List ℕ) (r i v : ℕ) → r < i → slice_index (slice_set xs i v) r ≡ slice_index xs r
set_above xs r i v lt = get_or-set_other xs i r v 0 (λ e. absurd (omega (arith, lt, e)))

pub set_below : (xs : List ℕ) (r i v : ℕ) → i < r → slice_index (slice_set xs i v) r ≡ slice_index xs r
set_below xs r i v lt = get_or-set_other xs i r v 0 (λ e. absurd (omega (arith, lt, e)))

pub set_there : (xs : List ℕ) (i v : ℕ) → i < length xs → slice_index (slice_set xs i v) i ≡ v
set_there xs i v lt = get_or-set_same xs i v 0 lt

-- a state with another sp, other data and another stack
abbrev pub along : State → ℕ → List ℕ → List ℕ → State
along m sp a b = record m { registers = slice_set m.registers 14 sp; area = a; stack = b }

pub along_twice : (m : State) (sp tp : ℕ) (a b c d : List ℕ) → along (along m sp a b) tp c d ≡ along m tp c d
along_twice m sp tp a b c d = ap (λ (rs : List ℕ). record m { registers = rs; area = c; stack = d }) (set-set m.registers 14 sp tp)

-- the one and the other with the same sp, data and stack
abbrev pub Both : State → State → Result State Stop → Result State Stop → Type 0
Both m n (Ok x) s = (sp : ℕ) × ((a : List ℕ) × ((b : List ℕ) × ((x ≡ along m sp a b) × (s ≡ Ok (along n sp a b)))))
Both m n (Err e) s = s ≡ Err e

pub record Near (m n : State) : Type 0 where
  pub long : length m.registers ≡ 15
  pub others_long : length n.registers ≡ 15
  pub bare : bare n ≡ bare m
  pub control : SameControl m.frames n.frames

module _ (m n : State) (near : Near m n) (sp : ℕ) (a b : List ℕ) where
  bare_along : bare (along n sp a b) ≡ bare (along m sp a b)
  bare_along i = record {
    layout = (near.bare i).layout;
    area = a;
    stack = b;
    input = (near.bare i).input;
    ap = (set_above n.registers 12 14 sp (lit< tt) ∙ ap (λ (x : Bare). x.ap) near.bare ∙ sym (set_above m.registers 12 14 sp (lit< tt))) i;
    fp = (set_above n.registers 13 14 sp (lit< tt) ∙ ap (λ (x : Bare). x.fp) near.bare ∙ sym (set_above m.registers 13 14 sp (lit< tt))) i;
    sp = (set_there n.registers 14 sp (omega (arith, near.others_long)) ∙ sym (set_there m.registers 14 sp (omega (arith, near.long)))) i;
  }

  pub near_along : Near (along m sp a b) (along n sp a b)
  near_along = record {
    long = length-set m.registers 14 sp ∙ near.long;
    others_long = length-set n.registers 14 sp ∙ near.others_long;
    bare = bare_along;
    control = near.control;
  }

  -- what both do further on
  pub outwards : (r s : Result State Stop) → Both (along m sp a b) (along n sp a b) r s → Both m n r s
  outwards (Ok x) s (tp, (c, (d, (e, f)))) = (tp, (c, (d, (e ∙ along_twice m sp tp a b c d, f ∙ ap (λ (y : State). Ok y) (along_twice n sp tp a b c d)))))
  outwards (Err x) s h = h

-- one part after another, with any outcome that says so of an error
pub both_then : (R : Result State Stop → Result State Stop → Type 0) → ((e : Stop) → R (Err e) (Err e)) → (m n : State) (r s : Result State Stop) → Both m n r s → (f g : State → Result State Stop)
    → ((sp : ℕ) (a b : List ℕ) → R (f (along m sp a b)) (g (along n sp a b))) → R (r >>= f) (s >>= g)
both_then R bad m n (Ok x) s (sp, (a, (b, (e, k)))) f g h =
    subst (λ (y : State). R (f y) (s >>= g)) (sym e) (subst (λ (t : Result State Stop). R (f (along m sp a b)) (t >>= g)) (sym k) (h sp a b))
both_then R bad m n (Err e) s k f g h = subst (λ (t : Result State Stop). R (Err e) (t >>= g)) (sym k) (bad e)

module _ (m n : State) (near : Near m n) where
  same_sp : reg n Sp ≡ reg m Sp
  same_sp = ap (λ (b : Bare). b.sp) near.bare

  -- ---- memory

  pub touch : (a : ℕ) (s : Size) → touched n a s ≡ touched m a s
  unfolding touched
  touch a s =
      ap (λ (xs : Bare). cond (nat_le 65536 a && nat_le (a + bytes_of s) (65536 + length xs.area)) (Ok (regions.Area (a - 65536)))
      (cond (nat_le 2139095040 a && nat_le (a + bytes_of s) 2147483648) (cond (in_control n.frames a (bytes_of s)) (Err frame) (Ok (regions.Stack (a - 2139095040)))) (Err access))) near.bare
      ∙ ap (λ (b : Bool). cond (nat_le 65536 a && nat_le (a + bytes_of s) (65536 + length m.area)) (Ok (regions.Area (a - 65536)))
      (cond (nat_le 2139095040 a && nat_le (a + bytes_of s) 2147483648) (cond b (Err frame) (Ok (regions.Stack (a - 2139095040)))) (Err access))) (near.control a (bytes_of s))

  number_same : (s : Size) (r : Region) → number_at n s r ≡ number_at m s r
  number_same s (regions.Area at) = ap (λ (b : Bare). number_in s b.area at) near.bare
  number_same s (regions.Stack at) = ap (λ (b : Bare). number_in s b.stack at) near.bare

  read_on : (s : Size) (t : Result Region Stop) → (t >>= λ (r : Region). Ok (number_at n s r)) ≡ (t >>= λ (r : Region). Ok (number_at m s r))
  read_on s (Ok r) = ap (λ (x : ℕ). Ok x) (number_same s r)
  read_on s (Err e) = refl

  pub read_same : (a : ℕ) (s : Size) → read n a s ≡ read m a s
  unfolding read
  read_same a s = ap (λ (t : Result Region Stop). t >>= λ (r : Region). Ok (number_at n s r)) (touch a s) ∙ read_on s (touched m a s)

  -- ---- what stays as it was, but for data and stack

  put_back : (a b : List ℕ) → record m { area = a; stack = b } ≡ along m (reg m Sp) a b
  put_back a b = ap (λ (rs : List ℕ). record m { registers = rs; area = a; stack = b }) (sym (set-get_or m.registers 14 0))

  put_back_other : (a b : List ℕ) → record n { area = a; stack = b } ≡ along n (reg m Sp) a b
  put_back_other a b =
      ap (λ (rs : List ℕ). record n { registers = rs; area = a; stack = b }) (sym (set-get_or n.registers 14 0))
      ∙ ap (λ (v : ℕ). along n v a b) same_sp

  both_here : (x : State) (s : Result State Stop) (a b : List ℕ) → x ≡ record m { area = a; stack = b } → s ≡ Ok (record n { area = a; stack = b }) → Both m n (Ok x) s
  both_here x s a b e f = (reg m Sp, (a, (b, (e ∙ put_back a b, f ∙ ap (λ (y : State). Ok y) (put_back_other a b)))))

  write_at : (s : Size) (v : ℕ) (r : Region) → Both m n (Ok (with_number_at m s v r)) (Ok (with_number_at n s v r))
  write_at s v (regions.Area at) =
      both_here _ _ (with_number s m.area at v) m.stack refl (ap (λ (b : Bare). Ok (record n { area = with_number s b.area at v; stack = b.stack })) near.bare)
  write_at s v (regions.Stack at) =
      both_here _ _ m.area (with_number s m.stack at v) refl (ap (λ (b : Bare). Ok (record n { area = b.area; stack = with_number s b.stack at v })) near.bare)

  write_on : (s : Size) (v : ℕ) (t : Result Region Stop) → Both m n (t >>= λ (r : Region). Ok (with_number_at m s v r)) (t >>= λ (r : Region). Ok (with_number_at n s v r))
  write_on s v (Ok r) = write_at s v r
  write_on s v (Err e) = refl

  pub write_both : (a : ℕ) (s : Size) (v : ℕ) → Both m n (written m a s v) (written n a s v)
  unfolding written
  write_both a s v =
      subst (λ (t : Result Region Stop). Both m n (written m a s v) (t >>= λ (r : Region). Ok (with_number_at n s v r))) (sym (touch a s)) (write_on s v (touched m a s))

  touch_on : (t : Result Region Stop) → Both m n (t >>= λ (r : Region). Ok m) (t >>= λ (r : Region). Ok n)
  touch_on (Ok r) = both_here _ _ m.area m.stack refl (ap (λ (b : Bare). Ok (record n { area = b.area; stack = b.stack })) near.bare)
  touch_on (Err e) = refl

  pub look_both : (a : ℕ) (s : Size) → Both m n (touched m a s >>= λ (r : Region). Ok m) (touched n a s >>= λ (r : Region). Ok n)
  look_both a s = subst (λ (t : Result Region Stop). Both m n (touched m a s >>= λ (r : Region). Ok m) (t >>= λ (r : Region). Ok n)) (sym (touch a s)) (touch_on (touched m a s))

  -- ---- sp

  set_by : (v : ℕ) (b : Bool) → Both m n (cond b (Err stack_full) (Ok (with_reg m Sp v))) (cond b (Err stack_full) (Ok (with_reg n Sp v)))
  set_by v true = refl
  set_by v false = (v, (m.area, (m.stack, (refl, ap (λ (b : Bare). Ok (along n v b.area b.stack)) near.bare))))

  pub set_both : (v : ℕ) → Both m n (register_set m Sp v) (register_set n Sp v)
  unfolding register_set
  set_both v = set_by v (nat_lt v 2139095040)

-- ---- parts one after another

both_both : (m n : State) → Near m n → (r s : Result State Stop) → Both m n r s → (f g : State → Result State Stop)
    → ((x y : State) → Near x y → Both x y (f x) (g y)) → Both m n (r >>= f) (s >>= g)
both_both m n near r s h f g k =
    both_then (Both m n) (λ e. refl) m n r s h f g (λ sp a b. outwards m n near sp a b _ _ (k (along m sp a b) (along n sp a b) (near_along m n near sp a b)))

module _ (m n : State) (near : Near m n) where
  pub push_both : (v : ℕ) → Both m n (pushed m v) (pushed n v)
  unfolding pushed
  push_both v =
      both_both m n near (register_set m Sp (sub32 (reg m Sp) 4)) (register_set n Sp (sub32 (reg n Sp) 4))
      (subst (λ (x : ℕ). Both m n (register_set m Sp (sub32 (reg m Sp) 4)) (register_set n Sp (sub32 x 4))) (sym (same_sp m n near)) (set_both m n near (sub32 (reg m Sp) 4)))
      (λ (x : State). written x (sub32 (reg m Sp) 4) Long v) (λ (y : State). written y (sub32 (reg n Sp) 4) Long v)
      (λ x y k. subst (λ (z : ℕ). Both x y (written x (sub32 (reg m Sp) 4) Long v) (written y (sub32 z 4) Long v)) (sym (same_sp m n near)) (write_both x y k (sub32 (reg m Sp) 4) Long v))

  reserve_both : Both m n (reserved m) (reserved n)
  unfolding reserved
  reserve_both =
      both_both m n near (register_set m Sp (sub32 (reg m Sp) 4)) (register_set n Sp (sub32 (reg n Sp) 4))
      (subst (λ (x : ℕ). Both m n (register_set m Sp (sub32 (reg m Sp) 4)) (register_set n Sp (sub32 x 4))) (sym (same_sp m n near)) (set_both m n near (sub32 (reg m Sp) 4)))
      (λ (x : State). touched x (sub32 (reg m Sp) 4) Long >>= λ (r : Region). Ok x) (λ (y : State). touched y (sub32 (reg n Sp) 4) Long >>= λ (r : Region). Ok y)
      (λ x y k. subst (λ (z : ℕ). Both x y (touched x (sub32 (reg m Sp) 4) Long >>= λ (r : Region). Ok x) (touched y (sub32 z 4) Long >>= λ (r : Region). Ok y)) (sym (same_sp m n near))
      (look_both x y k (sub32 (reg m Sp) 4) Long))

pub all_both : (k : ℕ) (m n : State) → Near m n → Both m n (all_reserved k m) (all_reserved k n)
all_both zero m n near = (both_here m n near _ _ m.area m.stack refl (ap (λ (b : Bare). Ok (record n { area = b.area; stack = b.stack })) near.bare))
all_both (suc k) m n near = both_both m n near (reserved m) (reserved n) (reserve_both m n near) (λ (x : State). all_reserved k x) (λ (y : State). all_reserved k y) (λ x y h. all_both k x y h)
