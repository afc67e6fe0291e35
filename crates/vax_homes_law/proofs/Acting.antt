-- What is done with the operands, in two states of which one has locals in registers.
use Rattle.std.proofs.Common.{◌≡◌, ◌⊎◌, ⊎_elim, ℕ, ◌+◌, ◌-◌, ◌*◌, ◌%◌, ◌^◌, ◌<◌, ◌≤◌, Bool, true, false, cond, List, [], ◌∷◌, length, map, Option, Some, None, Result, Ok, Err, refl}
use Rattle.std.proofs.Common.{sym, ap, subst, ◌∙◌, arith, length-set, get_or-set_other, get_or-set_same}
use Rattle.std.specs.Prelude.{slice_index, slice_set, nat_lt, ◌==◌, option_to_list}
use Rattle.std.specs.Str.{bytes_eq}
use Rattle.std.proofs.lemmas.Bool.{cases_eq, ltb-false}
use Rattle.gg_base.specs.declared.size.Size.TheVariants.{Long}
use Rattle.gg_base.specs.Arithmetic.{add32, sub32}
use Rattle.gg_base.specs.LittleEndian.{number_in}
use Rattle.vax_confined.specs.vax_core.specs.declared.register.Reg.TheVariants.{R0, Ap, Fp, Sp}
use Rattle.vax_confined.specs.vax_core.specs.declared.code.Instr.{Instr}
use Rattle.vax_confined.specs.vax_core.specs.First.{putchar_name}
use Rattle.vax_confined.specs.vax_core.specs.Ops.{shape}
use Rattle.vax_confined.specs.vax_core.specs.Registers.{reg_number}
use Rattle.vax_confined.specs.vax_machine.specs.declared.turn.Stop.{Stop}
use Rattle.vax_confined.specs.vax_machine.specs.declared.turn.Stop.TheVariants as stops
use Rattle.vax_confined.specs.vax_machine.specs.declared.operands.Location.{Location}
use Rattle.vax_confined.specs.vax_machine.specs.declared.operands.Location.TheVariants as locations
use Rattle.vax_confined.specs.vax_machine.specs.declared.operands.Destination.{Destination}
use Rattle.vax_confined.specs.vax_machine.specs.declared.operands.Arguments.{Arguments}
use Rattle.vax_confined.specs.vax_machine.specs.declared.function.Action.{Action}
use Rattle.vax_confined.specs.vax_machine.specs.declared.function.Action.TheVariants.{Compute, Push, Branch, Call, Return}
use Rattle.vax_confined.specs.vax_machine.specs.declared.function.Computed.{Computed}
use Rattle.vax_confined.specs.vax_machine.specs.declared.function.Conditions.{Conditions}
use Rattle.vax_confined.specs.vax_machine.specs.State.{State, reg, with_reg, with_conditions, cleared, stack_full, bad_code, ◌>>=◌}
use Rattle.vax_confined.specs.vax_machine.specs.Memory.{read, written, register_set}
use Rattle.vax_confined.specs.vax_machine.specs.Operands as machine
use Rattle.vax_confined.specs.vax_machine.specs.Operands.{put, stored}
use Rattle.vax_confined.specs.vax_machine.specs.Functions.{action_of, applied, passes, valued}
use Rattle.vax_confined.specs.vax_machine.specs.Labels.{getchar_name}
use Rattle.vax_confined.specs.vax_machine.specs.Calls.{Acts, pushed, putchar, getchar, got}
use Rattle.vax_confined.specs.vax_machine.specs.Step.{finished, pushing}
use Rattle.vax_confined.specs.vax_machine_lists.specs.Instructions.{Course, Ending, Comes, Goes, Calls, Returns, Stops, ends, comes, course_of, branching, calling, alone, evaluated_then}
use Rattle.vax_confined.specs.vax_machine_lists.specs.Instructions as lists
use Rattle.vax_confined.specs.vax_machine_lists.specs.Sound.{AllBelow, IsSound}
use Rattle.vax_confined.specs.vax_machine_lists.proofs.Longwords.{below_get}
use Rattle.vax_confined.specs.vax_machine_lists.proofs.Numbers.{applied_small, SmallResult, add_small, sub_small}
use Rattle.vax_homes.specs.declared.choose.Home.{Home}
use Rattle.vax_homes.specs.Homing.{homed_instr, homed_operand}
use Rattle.vax_confined.specs.Confined as confined
use Rattle.vax_homes_law.specs.Alike.{Has, IsPaired, beside, AllMayHome, AreLaid, Alike}
use Rattle.vax_homes_law.specs.Claims.{ComesAlike, Follows}
use Rattle.vax_homes_law.proofs.Memory.{Breaks, free_at, read_free, Kept, write_free, sound_register}
use Rattle.vax_homes_law.proofs.Places.{put_so}
use Rattle.vax_homes_law.proofs.Finding.{Small, read_small}
use Rattle.vax_homes_law.proofs.Operands.{Aimed, Destinations, EvaluatesAll, all_so}

sound_codes : (n : State) (k : Conditions) → IsSound n → IsSound (with_conditions n k)
sound_codes n k h = record {
  going = h.going;
  registers = h.registers;
  longwords = h.longwords;
  stack = h.stack;
  stack_bytes = h.stack_bytes;
  area = h.area;
  area_bytes = h.area_bytes;
  input_bytes = h.input_bytes;
}

module _ (hs : List Home) (paired : IsPaired hs) (hidden : ℕ → Type 0) (args low : ℕ) where
  codes_alike : (m : State) (rs st : List ℕ) (k : Conditions) → Alike hs hidden m rs st → Alike hs hidden (with_conditions m k) rs st
  codes_alike m rs st k h = record { sound = sound_codes m k h.sound; size = h.size; others = h.others; homes = h.homes; whole = h.whole; same = h.same }

  -- what can't be read breaks
  abbrev pub ReadBreaks : Result ℕ Stop → Type 0
  ReadBreaks (Ok v) = Unit {0}
  ReadBreaks (Err e) = Breaks e

  -- ---- acts

  pub record ActsAt (m : State) (byte : Option ℕ) (n : State) (other : Acts) : Type 0 where
    pub rs : List ℕ
    pub st : List ℕ
    pub is : other ≡ Ok (byte, beside n rs st)
    pub alike : Alike hs hidden n rs st
    pub fp : reg n Fp ≡ reg m Fp
    pub ap_same : reg n Ap ≡ reg m Ap
    pub bottom : 2139095040 ≤ reg n Sp
    pub sp : reg n Sp ≤ reg m Sp + 4 * length (option_to_list byte)

  abbrev pub ActsAlike : State → Acts → Acts → Type 0
  ActsAlike m (Ok x) other = ActsAt m x.0 x.1 other
  ActsAlike m (Err stops.Trapped) other = other ≡ Err stops.Trapped
  ActsAlike m (Err e) other = Unit {0}

  breaks_acts : (m : State) (e : Stop) (other : Acts) → Breaks e → ActsAlike m (Err e) other
  breaks_acts m (stops.Ended v) other b = tt
  breaks_acts m stops.Trapped other b = absurd b
  breaks_acts m (stops.Broken k) other b = tt

  course_alike : (m : State) (a b : Acts) → ActsAlike m a b → Follows hs hidden m (course_of a) (course_of b)
  course_alike m (Ok x) b g = record { rs = g.rs; st = g.st; is = ap course_of g.is; alike = g.alike; fp = g.fp; ap_same = g.ap_same; bottom = g.bottom; sp = g.sp }
  course_alike m (Err stops.Trapped) b g = ap course_of g
  course_alike m (Err (stops.Ended v)) b g = tt
  course_alike m (Err (stops.Broken k)) b g = tt

  module _ (m : State) (rs st : List ℕ) (h : Alike hs hidden m rs st) (laid : AreLaid hs hidden (reg m Fp) (reg m Ap) args low) (bottom : 2139095040 ≤ reg m Sp) where
    abbrev Goals : Option Destination → Option Destination → Type 0
    Goals = Destinations hs paired hidden args low m rs st h laid

    -- a result is stored, and the codes are set
    codes_behind : (k : Conditions) (t u : Result State Stop) → Kept hs paired hidden m t u
        → ActsAlike m (t >>= λ (n : State). Ok (None, with_conditions n k)) (u >>= λ (n : State). Ok (None, with_conditions n k))
    codes_behind k (Ok n) u g = record {
      rs = g.rs;
      st = g.st;
      is = ap (λ (w : Result State Stop). w >>= λ (n : State). Ok (None, with_conditions n k)) g.does;
      alike = codes_alike n g.rs g.st k g.alike;
      fp = g.fp;
      ap_same = g.ap_same;
      bottom = subst (λ (x : ℕ). 2139095040 ≤ x) (sym g.sp) bottom;
      sp = omega (arith, g.sp);
    }
    codes_behind k (Err e) u g = breaks_acts m e _ g

    put_at : (l other : Location) (d : Destination) (v : ℕ) → v < 2 ^ 32 → Aimed hs paired hidden args low m rs st h laid l other d.size
        → Kept hs paired hidden m (put m l d.size v) (put (beside m rs st) other d.size v)
    put_at (locations.Number n) other d v small g = tt
    put_at (locations.Register r) other d v small g = put_so hs paired hidden args low m rs st h laid (locations.Register r) other d.size v small g
    put_at (locations.Memory a) other d v small g = put_so hs paired hidden args low m rs st h laid (locations.Memory a) other d.size v small g

    stored_alike : (d c : Option Destination) (v : ℕ) → v < 2 ^ 32 → Goals d c → Kept hs paired hidden m (stored m d v) (stored (beside m rs st) c v)
    unfolding stored
    stored_alike None None v small g = record { rs = rs; st = st; does = refl; alike = h; fp = refl; ap_same = refl; sp = refl }
    stored_alike None (Some c) v small g = absurd g
    stored_alike (Some d) None v small g = absurd g
    stored_alike (Some d) (Some c) v small g =
        subst (λ (s : _). Kept hs paired hidden m (put m d.location d.size v) (put (beside m rs st) c.location s v)) (sym g.0) (put_at d.location c.location d v small g.1)

    finished_alike : (d c : Option Destination) (x : Option Computed) → SmallResult x → Goals d c → ActsAlike m (finished m d x) (finished (beside m rs st) c x)
    finished_alike d c None small g = refl
    finished_alike d c (Some x) small g = codes_behind x.conditions (stored m d x.value) (stored (beside m rs st) c x.value) (stored_alike d c x.value small g)

    -- ---- sp

    no_home_above : (r : ℕ) → 12 ≤ r → (k : Home) → Has hs k → reg_number k.register ≡ r → ⊥
    no_home_above r le k k_in e = omega (arith, e, le, paired.high k k_in)

    sp_same : reg (beside m rs st) Sp ≡ reg m Sp
    sp_same = h.others 14 (no_home_above 14 (omega arith))

    with_sp : (v : ℕ) → v < 2 ^ 32 → Alike hs hidden (with_reg m Sp v) (slice_set rs 14 v) st
    with_sp v small = record {
      sound = sound_register m 14 v h.sound small;
      size = length-set rs 14 v ∙ h.size;
      others = λ q none. ⊎_elim
          (λ e. ap (slice_index (slice_set rs 14 v)) e ∙ get_or-set_same rs 14 v 0 (omega (arith, h.size))
          ∙ sym (get_or-set_same m.registers 14 v 0 (omega (arith, h.sound.registers))) ∙ sym (ap (slice_index (slice_set m.registers 14 v)) e))
          (λ ne. get_or-set_other rs 14 q v 0 ne ∙ h.others q none ∙ sym (get_or-set_other m.registers 14 q v 0 ne))
          (cases_eq q 14);
      homes = λ k k_in.
          ap (λ (x : ℕ). number_in Long m.stack (x - 4 * (k.local + 1) - 2139095040)) (get_or-set_other m.registers 14 13 v 0 (λ e. omega (arith, e)))
          ∙ h.homes k k_in ∙ sym (get_or-set_other rs 14 (reg_number k.register) v 0 (λ e. no_home_above 14 (omega arith) k k_in e));
      whole = h.whole;
      same = h.same;
    }

    -- ---- a push

    -- the written longword lies below the frame's words
    pushed_by : (v : ℕ) (c : Bool) → nat_lt (sub32 (reg m Sp) 4) 2139095040 ≡ c → reg m Sp ≤ low
        → Kept hs paired hidden (with_reg m Sp (sub32 (reg m Sp) 4)) (cond c (Err stack_full) (Ok (with_reg m Sp (sub32 (reg m Sp) 4))) >>= λ (n : State). written n (sub32 (reg m Sp) 4) Long v)
        (cond c (Err stack_full) (Ok (beside (with_reg m Sp (sub32 (reg m Sp) 4)) (slice_set rs 14 (sub32 (reg m Sp) 4)) st)) >>= λ (n : State). written n (sub32 (reg m Sp) 4) Long v)
    pushed_by v true e le = tt
    pushed_by v false e le =
        let x = sub32 (reg m Sp) 4 in
        let fp_is : reg (with_reg m Sp x) Fp ≡ reg m Fp = get_or-set_other m.registers 14 13 x 0 (λ q. omega (arith, q)) in
        write_free hs paired hidden (with_reg m Sp x) (slice_set rs 14 x) st (with_sp x (sub_small (reg m Sp) 4))
        (λ k j k_in lt. subst (λ (y : ℕ). hidden (y - 4 * (k.local + 1) - 2139095040 + j)) (sym fp_is) (laid.homes k j k_in lt))
        (λ k k_in. subst (λ (y : ℕ). y - 4 * (k.local + 1) - 2139095040 + 4 ≤ 8388608) (sym fp_is) (omega (arith, laid.bottom k k_in, laid.top)))
        x Long v (free_at hs paired hidden x Long (laid.below x (omega (arith, le, bottom))))

    push_by : (v : ℕ) (k : Conditions) (t u : Result State Stop) → Kept hs paired hidden (with_reg m Sp (sub32 (reg m Sp) 4)) t u → (nat_lt (sub32 (reg m Sp) 4) 2139095040 ≡ true → t ≡ Err stack_full)
        → ActsAlike m (t >>= λ (n : State). Ok (None, with_conditions n k)) (u >>= λ (n : State). Ok (None, with_conditions n k))
    push_by v k (Ok n) u g full =
        let x = sub32 (reg m Sp) 4 in
        let sp_is : reg n Sp ≡ x = g.sp ∙ get_or-set_same m.registers 14 x 0 (omega (arith, h.sound.registers)) in
        let from : 2139095040 ≤ x = above (nat_lt x 2139095040) refl full in
        let small : reg m Sp < 2 ^ 32 = below_get (2 ^ 32) 14 m.registers (omega arith) h.sound.longwords in
        record {
          rs = g.rs;
          st = g.st;
          is = ap (λ (w : Result State Stop). w >>= λ (n : State). Ok (None, with_conditions n k)) g.does;
          alike = codes_alike n g.rs g.st k g.alike;
          fp = g.fp ∙ get_or-set_other m.registers 14 13 x 0 (λ e. omega (arith, e));
          ap_same = g.ap_same ∙ get_or-set_other m.registers 14 12 x 0 (λ e. omega (arith, e));
          bottom = subst (λ (y : ℕ). 2139095040 ≤ y) (sym sp_is) from;
          sp = subst (λ (y : ℕ). y ≤ reg m Sp + 4 * 0) (sym sp_is) (omega (arith, bottom, small));
        }
      where
        above : (b : Bool) → nat_lt (sub32 (reg m Sp) 4) 2139095040 ≡ b → (nat_lt (sub32 (reg m Sp) 4) 2139095040 ≡ true → Ok n ≡ Err stack_full) → 2139095040 ≤ sub32 (reg m Sp) 4
        above true e f = absurd (ok_is_no_error (f e))
          where
            ok_is_no_error : Ok n ≡ Err stack_full → ⊥
            ok_is_no_error q = cc
        above false e f = ltb-false (sub32 (reg m Sp) 4) 2139095040 e
    push_by v k (Err e) u g full = breaks_acts m e _ g

    pushing_alike : (v : ℕ) → reg m Sp ≤ low → ActsAlike m (pushing m v) (pushing (beside m rs st) v)
    unfolding pushed register_set
    pushing_alike v le =
        let x = sub32 (reg m Sp) 4 in
        subst (λ (y : ℕ). ActsAlike m (pushing m v) ((cond (nat_lt (sub32 y 4) 2139095040) (Err stack_full) (Ok (beside (with_reg m Sp (sub32 y 4)) (slice_set rs 14 (sub32 y 4)) st)) >>= λ
        (n : State). written n (sub32 y 4) Long v)
        >>= λ (n : State). Ok (None, with_conditions n (valued Long v m.conditions.carry).conditions)))
        (sym sp_same)
        (push_by v (valued Long v m.conditions.carry).conditions _ _ (pushed_by v (nat_lt x 2139095040) refl le) (λ e. ap (λ (c : Bool). cond c (Err stack_full) (Ok (with_reg m Sp x)) >>= λ
        (n : State). written n x Long v) e))

    -- ---- services

    -- r0 is set
    with_r0 : (n : State) (rs2 st2 : List ℕ) (v : ℕ) → v < 2 ^ 32 → Alike hs hidden n rs2 st2 → Alike hs hidden (with_conditions (with_reg n R0 v) cleared) (slice_set rs2 0 v) st2
    with_r0 n rs2 st2 v small g = record {
      sound = sound_codes (with_reg n R0 v) cleared (sound_register n 0 v g.sound small);
      size = length-set rs2 0 v ∙ g.size;
      others = λ q none. ⊎_elim
          (λ e. ap (slice_index (slice_set rs2 0 v)) e ∙ get_or-set_same rs2 0 v 0 (omega (arith, g.size))
          ∙ sym (get_or-set_same n.registers 0 v 0 (omega (arith, g.sound.registers))) ∙ sym (ap (slice_index (slice_set n.registers 0 v)) e))
          (λ ne. get_or-set_other rs2 0 q v 0 ne ∙ g.others q none ∙ sym (get_or-set_other n.registers 0 q v 0 ne))
          (cases_eq q 0);
      homes = λ k k_in.
          ap (λ (x : ℕ). number_in Long n.stack (x - 4 * (k.local + 1) - 2139095040)) (get_or-set_other n.registers 0 13 v 0 (λ e. omega (arith, e)))
          ∙ g.homes k k_in ∙ sym (get_or-set_other rs2 0 (reg_number k.register) v 0 (λ e. omega (arith, e, paired.low k k_in)));
      whole = g.whole;
      same = g.same;
    }

    got_alike : (input : List ℕ) → input ≡ m.input → ActsAlike m (Ok (None, got m input)) (Ok (None, got (beside m rs st) input))
    got_alike [] e = record {
      rs = slice_set rs 0 (2 ^ 32 - 1);
      st = st;
      is = refl;
      alike = with_r0 m rs st (2 ^ 32 - 1) (omega arith) h;
      fp = get_or-set_other m.registers 0 13 (2 ^ 32 - 1) 0 (λ e. omega (arith, e));
      ap_same = get_or-set_other m.registers 0 12 (2 ^ 32 - 1) 0 (λ e. omega (arith, e));
      bottom = subst (λ (y : ℕ). 2139095040 ≤ y) (sym (get_or-set_other m.registers 0 14 (2 ^ 32 - 1) 0 (λ e. omega (arith, e)))) bottom;
      sp = omega (arith, get_or-set_other m.registers 0 14 (2 ^ 32 - 1) 0 (λ e. omega (arith, e)));
    }
    got_alike (b ∷ rest) e =
        let bytes : AllBelow 256 (b ∷ rest) = subst (AllBelow 256) (sym e) h.sound.input_bytes in
        let fewer : Alike hs hidden (record m { input = rest }) rs st = record {
          sound = record {
            going = h.sound.going;
            registers = h.sound.registers;
            longwords = h.sound.longwords;
            stack = h.sound.stack;
            stack_bytes = h.sound.stack_bytes;
            area = h.sound.area;
            area_bytes = h.sound.area_bytes;
            input_bytes = bytes.1;
          };
          size = h.size;
          others = h.others;
          homes = h.homes;
          whole = h.whole;
          same = h.same;
        } in
        record {
          rs = slice_set rs 0 b;
          st = st;
          is = refl;
          alike = with_r0 (record m { input = rest }) rs st b (omega (arith, bytes.0)) fewer;
          fp = get_or-set_other m.registers 0 13 b 0 (λ e. omega (arith, e));
          ap_same = get_or-set_other m.registers 0 12 b 0 (λ e. omega (arith, e));
          bottom = subst (λ (y : ℕ). 2139095040 ≤ y) (sym (get_or-set_other m.registers 0 14 b 0 (λ e. omega (arith, e)))) bottom;
          sp = omega (arith, get_or-set_other m.registers 0 14 b 0 (λ e. omega (arith, e)));
        }

    service_by : (b : Bool) (x y : Acts) → ActsAlike m x y → ActsAlike m (cond b x (Err bad_code)) (cond b y (Err bad_code))
    service_by true x y g = g
    service_by false x y g = tt

    getchar_alike : (count : ℕ) → ActsAlike m (getchar m count) (getchar (beside m rs st) count)
    unfolding getchar
    getchar_alike count = service_by (count == 0) (Ok (None, got m m.input)) (Ok (None, got (beside m rs st) m.input)) (got_alike m.input refl)

    -- an act writes so many bytes that sp may rise by a longword for each
    abbrev pub Fits : Acts → Type 0
    Fits (Ok x) = reg m Sp + 4 * length (option_to_list x.0) ≤ low
    Fits (Err e) = Unit {0}

    abbrev putting : State → ℕ → ℕ → Acts
    putting n x v = register_set n Sp x >>= λ (k : State). Ok (Some (v % 2 ^ 8), with_conditions (with_reg k R0 (v % 2 ^ 8)) cleared)

    put_byte : (v x : ℕ) → x ≡ add32 (reg m Sp) 4 → (c : Bool) → nat_lt x 2139095040 ≡ c
        → ActsAlike m (cond c (Err stack_full) (Ok (with_reg m Sp x)) >>= λ (k : State). Ok (Some (v % 2 ^ 8), with_conditions (with_reg k R0 (v % 2 ^ 8)) cleared))
        (cond c (Err stack_full) (Ok (beside (with_reg m Sp x) (slice_set rs 14 x) st)) >>= λ (k : State). Ok (Some (v % 2 ^ 8), with_conditions (with_reg k R0 (v % 2 ^ 8)) cleared))
    put_byte v x is true e = tt
    put_byte v x is false e =
        let b = v % 2 ^ 8 in
        let small : x < 2 ^ 32 = subst (λ (y : ℕ). y < 2 ^ 32) (sym is) (add_small (reg m Sp) 4) in
        let sp_is : slice_index (slice_set (slice_set m.registers 14 x) 0 b) 14 ≡ x =
        get_or-set_other (slice_set m.registers 14 x) 0 14 b 0 (λ e. omega (arith, e)) ∙ get_or-set_same m.registers 14 x 0 (omega (arith, h.sound.registers)) in
        record {
          rs = slice_set (slice_set rs 14 x) 0 b;
          st = st;
          is = refl;
          alike = with_r0 (with_reg m Sp x) (slice_set rs 14 x) st b (omega arith) (with_sp x small);
          fp = get_or-set_other (slice_set m.registers 14 x) 0 13 b 0 (λ e. omega (arith, e)) ∙ get_or-set_other m.registers 14 13 x 0 (λ e. omega (arith, e));
          ap_same = get_or-set_other (slice_set m.registers 14 x) 0 12 b 0 (λ e. omega (arith, e)) ∙ get_or-set_other m.registers 14 12 x 0 (λ e. omega (arith, e));
          bottom = subst (λ (y : ℕ). 2139095040 ≤ y) (sym sp_is) (ltb-false x 2139095040 e);
          sp = subst (λ (y : ℕ). y ≤ reg m Sp + 4 * 1) (sym sp_is) (omega (arith, is));
        }

    putchar_by : (t u : Result ℕ Stop) → (reg m Sp + 4 ≤ low → u ≡ t)
        → Fits (t >>= λ (v : ℕ). putting m (add32 (reg m Sp) 4) v) → ReadBreaks t
        → ActsAlike m (t >>= λ (v : ℕ). putting m (add32 (reg m Sp) 4) v) (u >>= λ (v : ℕ). putting (beside m rs st) (add32 (reg m Sp) 4) v)
    unfolding register_set
    putchar_by (Err e) u same fits b = breaks_acts m e _ b
    putchar_by (Ok v) u same fits b = by (nat_lt x 2139095040) refl fits
      where
        x : ℕ
        x = add32 (reg m Sp) 4

        by : (c : Bool) → nat_lt (add32 (reg m Sp) 4) 2139095040 ≡ c
            → Fits (cond c (Err stack_full) (Ok (with_reg m Sp (add32 (reg m Sp) 4))) >>= λ (k : State). Ok (Some (v % 2 ^ 8), with_conditions (with_reg k R0 (v % 2 ^ 8)) cleared))
            → ActsAlike m (cond c (Err stack_full) (Ok (with_reg m Sp (add32 (reg m Sp) 4))) >>= λ (k : State). Ok (Some (v % 2 ^ 8), with_conditions (with_reg k R0 (v % 2 ^ 8)) cleared))
            (u >>= λ (v : ℕ). cond (nat_lt (add32 (reg m Sp) 4) 2139095040) (Err stack_full) (Ok (beside (with_reg m Sp (add32 (reg m Sp) 4)) (slice_set rs 14 (add32 (reg m Sp) 4)) st))
            >>= λ (k : State). Ok (Some (v % 2 ^ 8), with_conditions (with_reg k R0 (v % 2 ^ 8)) cleared))
        by true e fits = tt
        by false e fits =
            subst (λ (w : Result ℕ Stop). ActsAlike m (Ok (Some (v % 2 ^ 8), with_conditions (with_reg (with_reg m Sp (add32 (reg m Sp) 4)) R0 (v % 2 ^ 8)) cleared))
            (w >>= λ (v : ℕ). cond (nat_lt (add32 (reg m Sp) 4) 2139095040) (Err stack_full) (Ok (beside (with_reg m Sp (add32 (reg m Sp) 4)) (slice_set rs 14 (add32 (reg m Sp) 4)) st))
            >>= λ (k : State). Ok (Some (v % 2 ^ 8), with_conditions (with_reg k R0 (v % 2 ^ 8)) cleared))) (sym (same (omega (arith, fits))))
            (subst (λ (c : Bool). ActsAlike m (Ok (Some (v % 2 ^ 8), with_conditions (with_reg (with_reg m Sp (add32 (reg m Sp) 4)) R0 (v % 2 ^ 8)) cleared))
            (cond c (Err stack_full) (Ok (beside (with_reg m Sp (add32 (reg m Sp) 4)) (slice_set rs 14 (add32 (reg m Sp) 4)) st))
            >>= λ (k : State). Ok (Some (v % 2 ^ 8), with_conditions (with_reg k R0 (v % 2 ^ 8)) cleared))) (sym e)
            (put_byte v (add32 (reg m Sp) 4) refl false e))

    read_breaks : (t : Result ℕ Stop) → Small t → ReadBreaks t
    read_breaks (Ok v) g = tt
    read_breaks (Err e) g = g

    putchar_from : (y : ℕ) → y ≡ reg m Sp → (b : Bool) → Fits (cond b (read m (reg m Sp) Long >>= λ (v : ℕ). putting m (add32 (reg m Sp) 4) v) (Err bad_code))
        → ActsAlike m (cond b (read m (reg m Sp) Long >>= λ (v : ℕ). putting m (add32 (reg m Sp) 4) v) (Err bad_code))
        (cond b (read (beside m rs st) y Long >>= λ (v : ℕ). putting (beside m rs st) (add32 y 4) v) (Err bad_code))
    putchar_from y is false f = tt
    putchar_from y is true f =
        subst (λ (z : ℕ). ActsAlike m (read m (reg m Sp) Long >>= λ (v : ℕ). putting m (add32 (reg m Sp) 4) v) (read (beside m rs st) z Long >>= λ (v : ℕ). putting (beside m rs st)
        (add32 z 4) v)) (sym is)
        (putchar_by (read m (reg m Sp) Long) (read (beside m rs st) (reg m Sp) Long)
        (λ le. read_free hs paired hidden m rs st h (reg m Sp) Long (free_at hs paired hidden (reg m Sp) Long (laid.below (reg m Sp) le))) f
        (read_breaks (read m (reg m Sp) Long) (read_small m (reg m Sp) Long h.sound)))

    putchar_alike : (count : ℕ) → Fits (putchar m count) → ActsAlike m (putchar m count) (putchar (beside m rs st) count)
    unfolding putchar
    putchar_alike count f = putchar_from (reg (beside m rs st) Sp) sp_same (count == 1) f

    -- ---- courses

    -- sp may rise by a longword for each byte that a course writes
    abbrev pub CourseFits : Course → Type 0
    CourseFits c = reg m Sp + 4 * length c.written ≤ low

    acts_fit : (a : Acts) → CourseFits (course_of a) → Fits a
    acts_fit (Ok x) f = f
    acts_fit (Err e) f = tt

    fits_low : (c : Course) → CourseFits c → reg m Sp ≤ low
    fits_low c f = omega (arith, f)

    stays : (way : State → Ending) (other : Course) → other ≡ record { written = []; ending = way (beside m rs st) } → ComesAlike hs hidden m m [] way other
    stays way other e = record { rs = rs; st = st; is = e; alike = h; fp = refl; ap_same = refl; bottom = bottom; sp = omega arith }

    branching_alike : (b : Bool) (target : Option (List ℕ)) → Follows hs hidden m (branching b target m) (branching b target (beside m rs st))
    branching_alike true None = tt
    branching_alike false None = tt
    branching_alike true (Some label) = stays (λ (k : State). Goes label k) (ends (Goes label (beside m rs st))) refl
    branching_alike false (Some label) = stays (λ (k : State). Comes k) (comes (beside m rs st)) refl

    calling_by : (name : List ℕ) (count : ℕ) (b c : Bool)
        → CourseFits (cond b (course_of (putchar m count)) (cond c (course_of (getchar m count)) (ends (Calls name count m []))))
        → Follows hs hidden m (cond b (course_of (putchar m count)) (cond c (course_of (getchar m count)) (ends (Calls name count m []))))
        (cond b (course_of (putchar (beside m rs st) count)) (cond c (course_of (getchar (beside m rs st) count)) (ends (Calls name count (beside m rs st) []))))
    calling_by name count true c f = course_alike m (putchar m count) (putchar (beside m rs st) count) (putchar_alike count (acts_fit (putchar m count) f))
    calling_by name count false true f = course_alike m (getchar m count) (getchar (beside m rs st) count) (getchar_alike count)
    calling_by name count false false f = stays (λ (k : State). Calls name count k []) (ends (Calls name count (beside m rs st) [])) refl

    calling_alike : (count : ℕ) (target : Option (List ℕ)) → CourseFits (calling count target m) → Follows hs hidden m (calling count target m) (calling count target (beside m rs st))
    calling_alike count None f = tt
    calling_alike count (Some name) f = calling_by name count (bytes_eq name putchar_name) (bytes_eq name getchar_name) f

    alone_alike : (a : Action) (x y : Arguments) (target : Option (List ℕ)) → y.first ≡ x.first → y.second ≡ x.second → x.first < 2 ^ 32 → x.second < 2 ^ 32 → Goals x.destination y.destination
        → CourseFits (alone a x target m) → Follows hs hidden m (alone a x target m) (alone a y target (beside m rs st))
    alone_alike (Compute f) x y target p q small too d c =
        subst (λ (u : ℕ). Follows hs hidden m (alone (Compute f) x target m) (course_of (finished (beside m rs st) y.destination (applied f u y.second m.conditions.carry)))) (sym p)
        (subst (λ (u : ℕ). Follows hs hidden m (alone (Compute f) x target m) (course_of (finished (beside m rs st) y.destination (applied f x.first u m.conditions.carry)))) (sym q)
        (course_alike m (finished m x.destination (applied f x.first x.second m.conditions.carry)) (finished (beside m rs st) y.destination (applied f x.first x.second m.conditions.carry))
        (finished_alike x.destination y.destination (applied f x.first x.second m.conditions.carry) (applied_small f x.first x.second m.conditions.carry small too) d)))
    alone_alike Push x y target p q small too d c =
        subst (λ (u : ℕ). Follows hs hidden m (course_of (pushing m x.first)) (course_of (pushing (beside m rs st) u))) (sym p)
        (course_alike m (pushing m x.first) (pushing (beside m rs st) x.first) (pushing_alike x.first (fits_low (course_of (pushing m x.first)) c)))
    alone_alike (Branch t) x y target p q small too d c = branching_alike (passes t m.conditions) target
    alone_alike Call x y target p q small too d c =
        subst (λ (u : ℕ). Follows hs hidden m (calling x.first target m) (calling u target (beside m rs st))) (sym p) (calling_alike x.first target c)
    alone_alike Return x y target p q small too d c = stays (λ (k : State). Returns k) (ends (Returns (beside m rs st))) refl

    -- ---- one instruction

    then_alike : (i : Instr) (t u : Result (Arguments × State) Stop) → EvaluatesAll hs paired hidden args low m rs st h laid t u → CourseFits (evaluated_then i t)
        → Follows hs hidden m (evaluated_then i t) (evaluated_then (homed_instr hs i) u)
    then_alike i (Ok x) u g c =
        subst (λ (w : Result (Arguments × State) Stop). Follows hs hidden m (evaluated_then i (Ok x)) (evaluated_then (homed_instr hs i) w)) (sym g.is)
        (subst (λ (n : State). Follows hs hidden m (alone (action_of i.op) x.0 i.target n) (alone (action_of i.op) g.given i.target (beside m rs st))) (sym g.stays)
        (alone_alike (action_of i.op) x.0 g.given i.target g.first g.second g.first_small g.second_small g.destination
        (subst (λ (n : State). CourseFits (alone (action_of i.op) x.0 i.target n)) g.stays c)))
    then_alike i (Err e) u g c = error_by e g
      where
        error_by : (e : Stop) → Breaks e → Follows hs hidden m (ends (Stops e)) (evaluated_then (homed_instr hs i) u)
        error_by (stops.Ended v) b = tt
        error_by stops.Trapped b = absurd b
        error_by (stops.Broken k) b = tt

    pub performed_alike : (i : Instr) → AllMayHome hs args (shape i.op).operands i.operands → CourseFits (confined.performed i m)
        → Follows hs hidden m (confined.performed i m) (lists.performed (homed_instr hs i) (beside m rs st))
    unfolding confined.performed lists.performed
    performed_alike i may c =
        then_alike i (confined.all_evaluated (shape i.op).operands i.operands m) (machine.all_evaluated (shape i.op).operands (map (homed_operand hs) i.operands) (beside m rs st))
        (all_so hs paired hidden args low m rs st h laid (shape i.op).operands i.operands may) c
