-- Memory of two states of which one has locals in registers: reads are the same but in hidden places, and writes keep them alike.
use Rattle.std.proofs.Common.{◌≡◌, ◌⊎◌, inl, inr, ⊎_elim, ℕ, ◌+◌, ◌-◌, ◌*◌, ◌^◌, ◌<◌, ◌≤◌, Bool, true, false, cond, List, length, Result, Ok, Err, refl, sym}
use Rattle.std.proofs.Common.{ap, subst, ◌∙◌, arith, length-set}
use Rattle.std.specs.Prelude.{slice_index, slice_set, nat_le, ◌&&◌}
use Rattle.std.proofs.lemmas.Bool.{leb-true, cases_lt}
use Rattle.gg_base.specs.declared.size.Size.{Size}
use Rattle.gg_base.specs.declared.size.Size.TheVariants.{Byte, Word, Long}
use Rattle.gg_base.specs.Sizes.{bytes_of}
use Rattle.gg_base.specs.LittleEndian.{number_in, with_number}
use Rattle.vax_confined.specs.vax_core.specs.declared.register.Reg.TheVariants.{Ap, Fp, Sp}
use Rattle.vax_confined.specs.vax_core.specs.Registers.{reg_number}
use Rattle.vax_confined.specs.vax_machine_live.specs.Control.{in_control}
use Rattle.vax_confined.specs.vax_machine.specs.declared.turn.Stop.{Stop}
use Rattle.vax_confined.specs.vax_machine.specs.declared.turn.Stop.TheVariants as stops
use Rattle.vax_confined.specs.vax_machine.specs.declared.memory.Region.{Region}
use Rattle.vax_confined.specs.vax_machine.specs.declared.memory.Region.TheVariants as regions
use Rattle.vax_confined.specs.vax_machine.specs.State.{State, reg, access, frame, ◌>>=◌}
use Rattle.vax_confined.specs.vax_machine.specs.Memory.{touched, read, written, number_at, with_number_at}
use Rattle.vax_confined.specs.vax_machine_lists.specs.Sound.{AllBelow, IsSound}
use Rattle.vax_confined.specs.vax_machine_lists.proofs.Longwords.{length-with_any, with_below, below_set}
use Rattle.vax_homes.specs.declared.choose.Home.{Home}
use Rattle.vax_confined.specs.Confined.{in_area}
use Rattle.vax_confined.proofs.Touching.{data_touched}
use Rattle.vax_homes_law.specs.Alike.{Has, IsPaired, beside, word_place, IsFree, Alike}
use Rattle.vax_homes_law.proofs.Bytes.{numbers_same, with_outside, with_inside, number_stays}

-- ---- where bytes are kept

-- it is over otherwise than by a trap
abbrev pub Breaks : Stop → Type 0
Breaks (stops.Ended v) = Unit {0}
Breaks stops.Trapped = ⊥
Breaks (stops.Broken k) = Unit {0}

abbrev number_of : Result ℕ Stop → ℕ
number_of (Ok v) = v
number_of (Err e) = 0

abbrev pub LiesAt : State → ℕ → Size → Result Region Stop → Type 0
LiesAt m a s (Ok (regions.Area at)) = (a ≡ at + 65536) × (at + bytes_of s ≤ length m.area)
LiesAt m a s (Ok (regions.Stack at)) = (at ≡ a - 2139095040) × (2139095040 ≤ a) × (at + bytes_of s ≤ 8388608)
LiesAt m a s (Err e) = Breaks e

in_stack : (m : State) (a : ℕ) (s : Size) (p q : Bool) → nat_le 2139095040 a ≡ p → nat_le (a + bytes_of s) 2147483648 ≡ q → (c : Bool)
    → LiesAt m a s (cond (p && q) (cond c (Err frame) (Ok (regions.Stack (a - 2139095040)))) (Err access))
in_stack m a s true true e f true = tt
in_stack m a s true true e f false =
    let from = leb-true 2139095040 a e in
    let to = leb-true (a + bytes_of s) 2147483648 f in
    (refl, from, omega (arith, from, to))
in_stack m a s true false e f c = tt
in_stack m a s false q e f c = tt

in_data : (m : State) (a : ℕ) (s : Size) (p q : Bool) → nat_le 65536 a ≡ p → nat_le (a + bytes_of s) (65536 + length m.area) ≡ q → (others : Result Region Stop) → LiesAt m a s others
    → LiesAt m a s (cond (p && q) (Ok (regions.Area (a - 65536))) others)
in_data m a s true true e f others h =
    let from = leb-true 65536 a e in
    let to = leb-true (a + bytes_of s) (65536 + length m.area) f in
    (omega (arith, from, to), omega (arith, from, to))
in_data m a s true false e f others h = h
in_data m a s false q e f others h = h

pub lies : (m : State) (a : ℕ) (s : Size) → LiesAt m a s (touched m a s)
unfolding touched
lies m a s = in_data m a s (nat_le 65536 a) (nat_le (a + bytes_of s) (65536 + length m.area)) refl refl _
    (in_stack m a s (nat_le 2139095040 a) (nat_le (a + bytes_of s) 2147483648) refl refl (in_control m.frames a (bytes_of s)))

touched_same : (m : State) (rs st : List ℕ) (a : ℕ) (s : Size) → touched (beside m rs st) a s ≡ touched m a s
unfolding touched
touched_same m rs st a s = refl

-- ---- soundness of what is written

sound_area : (m : State) (area : List ℕ) → IsSound m → length area ≡ length m.area → AllBelow 256 area → IsSound (record m { area = area })
sound_area m area h same bytes = record {
  going = h.going;
  registers = h.registers;
  longwords = h.longwords;
  stack = h.stack;
  stack_bytes = h.stack_bytes;
  area = omega (arith, same, h.area);
  area_bytes = bytes;
  input_bytes = h.input_bytes;
}

sound_stack : (m : State) (stack : List ℕ) → IsSound m → length stack ≡ 8388608 → AllBelow 256 stack → IsSound (record m { stack = stack })
sound_stack m stack h same bytes = record {
  going = h.going;
  registers = h.registers;
  longwords = h.longwords;
  stack = same;
  stack_bytes = bytes;
  area = h.area;
  area_bytes = h.area_bytes;
  input_bytes = h.input_bytes;
}

pub sound_register : (m : State) (n v : ℕ) → IsSound m → v < 2 ^ 32 → IsSound (record m { registers = slice_set m.registers n v })
sound_register m n v h lt = record {
  going = h.going;
  registers = length-set m.registers n v ∙ h.registers;
  longwords = below_set (2 ^ 32) n v m.registers lt h.longwords;
  stack = h.stack;
  stack_bytes = h.stack_bytes;
  area = h.area;
  area_bytes = h.area_bytes;
  input_bytes = h.input_bytes;
}

module _ (hs : List Home) (paired : IsPaired hs) (hidden : ℕ → Type 0) where
  -- no byte of a number at an address is hidden
  abbrev pub FreeAt : ℕ → Size → Type 0
  FreeAt a s = (j : ℕ) → j < bytes_of s → hidden (a - 2139095040 + j) → ⊥

  at_most_four : (s : Size) → bytes_of s ≤ 4
  at_most_four Byte = omega arith
  at_most_four Word = omega arith
  at_most_four Long = omega arith

  pub free_at : (a : ℕ) (s : Size) → IsFree hs hidden a → FreeAt a s
  free_at a s f = λ j lt. f j (omega (arith, lt, at_most_four s))

  -- ---- reads

  module _ (m : State) (rs st : List ℕ) (h : Alike hs hidden m rs st) where
    read_by : (a : ℕ) (s : Size) → FreeAt a s → (t : Result Region Stop) → LiesAt m a s t
        → (t >>= λ (r : Region). Ok (number_at (beside m rs st) s r)) ≡ (t >>= λ (r : Region). Ok (number_at m s r))
    read_by a s free (Ok (regions.Area at)) l = refl
    read_by a s free (Ok (regions.Stack at)) l =
        ap Ok (numbers_same s st m.stack at (omega (arith, l.2, h.whole)) (omega (arith, l.2, h.sound.stack))
        (λ j lt. h.same (at + j) (λ hid. free j lt (subst (λ (x : ℕ). hidden (x + j)) l.0 hid))))
    read_by a s free (Err e) l = refl

    pub read_free : (a : ℕ) (s : Size) → FreeAt a s → read (beside m rs st) a s ≡ read m a s
    unfolding read
    read_free a s free =
        ap (λ (t : Result Region Stop). t >>= λ (r : Region). Ok (number_at (beside m rs st) s r)) (touched_same m rs st a s) ∙ read_by a s free (touched m a s) (lies m a s)

    pub read_data : (a : ℕ) (s : Size) → in_area m a s ≡ true → read (beside m rs st) a s ≡ read m a s
    unfolding read
    read_data a s e =
        ap (λ (t : Result Region Stop). t >>= λ (r : Region). Ok (number_at (beside m rs st) s r)) (touched_same m rs st a s ∙ data_touched m a s e)
        ∙ sym (ap (λ (t : Result Region Stop). t >>= λ (r : Region). Ok (number_at m s r)) (data_touched m a s e))

    -- the home of a local, where it can be read, holds what its register holds
    module _ (k : Home) (in_hs : Has hs k) (bottom : 2139095040 + 4 * (k.local + 1) ≤ reg m Fp) where
      home_by : (t : Result Region Stop) → LiesAt m (reg m Fp - 4 * (k.local + 1)) Long t → (v : ℕ)
          → (t >>= λ (r : Region). Ok (number_at m Long r)) ≡ Ok v → slice_index rs (reg_number k.register) ≡ v
      home_by (Ok (regions.Area at)) l v e = absurd (omega (arith, l.0, l.1, h.sound.area, bottom))
      home_by (Ok (regions.Stack at)) l v e = sym (h.homes k in_hs) ∙ ap (number_in Long m.stack) (sym l.0) ∙ ap number_of e
      home_by (Err x) l v e = absurd cc

      pub home_read : (v : ℕ) → read m (reg m Fp - 4 * (k.local + 1)) Long ≡ Ok v → slice_index rs (reg_number k.register) ≡ v
      unfolding read
      home_read v e = home_by (touched m (reg m Fp - 4 * (k.local + 1)) Long) (lies m (reg m Fp - 4 * (k.local + 1)) Long) v e

  -- ---- writes

  -- the first state behind something that is done, and registers and stack of the other one
  pub record After (m m2 : State) (other : Result State Stop) : Type 0 where
    pub rs : List ℕ
    pub st : List ℕ
    pub does : other ≡ Ok (beside m2 rs st)
    pub alike : Alike hs hidden m2 rs st
    pub fp : reg m2 Fp ≡ reg m Fp
    pub ap_same : reg m2 Ap ≡ reg m Ap
    pub sp : reg m2 Sp ≡ reg m Sp

  abbrev pub Kept : State → Result State Stop → Result State Stop → Type 0
  Kept m (Ok m2) other = After m m2 other
  Kept m (Err e) other = Breaks e

  module _ (m : State) (rs st : List ℕ) (h : Alike hs hidden m rs st) where
    with_area : (s : Size) (at v : ℕ) → at + bytes_of s ≤ length m.area → Alike hs hidden (record m { area = with_number s m.area at v }) rs st
    with_area s at v le = record {
      sound = sound_area m (with_number s m.area at v) h.sound (length-with_any s m.area at v le) (with_below s m.area at v h.sound.area_bytes);
      size = h.size;
      others = h.others;
      homes = h.homes;
      whole = h.whole;
      same = h.same;
    }

    -- a place that isn't hidden lies apart from each home
    apart : (fp at : ℕ) (s : Size) (k : Home) → ((j : ℕ) → j < 4 → hidden (word_place fp k.local + j)) → ((j : ℕ) → j < bytes_of s → hidden (at + j) → ⊥)
        → (word_place fp k.local + 4 ≤ at) ⊎ (at + bytes_of s ≤ word_place fp k.local)
    apart fp at s k hid free =
        let w = word_place fp k.local in
        ⊎_elim
        (λ lt. ⊎_elim (λ le. inl le) (λ gt. absurd (free 0 (positive s) (subst hidden (omega (arith, lt, gt)) (hid (at - w) (omega (arith, lt, gt)))))) (order (w + 4) at))
        (λ ge. ⊎_elim (λ le. inr le) (λ gt. absurd (free (w - at) (omega (arith, ge, gt)) (subst hidden (omega (arith, ge, gt)) (hid 0 (omega arith))))) (order (at + bytes_of s) w))
        (cases_lt w at)
      where
        positive : (s : Size) → 0 < bytes_of s
        positive Byte = omega arith
        positive Word = omega arith
        positive Long = omega arith

        order : (x y : ℕ) → (x ≤ y) ⊎ (y < x)
        order x y = ⊎_elim (λ lt. inr lt) (λ le. inl le) (cases_lt y x)

    with_stack : (s : Size) (at v : ℕ) → at + bytes_of s ≤ 8388608 → ((k : Home) (j : ℕ) → Has hs k → j < 4 → hidden (word_place (reg m Fp) k.local + j))
        → ((k : Home) → Has hs k → word_place (reg m Fp) k.local + 4 ≤ 8388608) → ((j : ℕ) → j < bytes_of s → hidden (at + j) → ⊥)
        → Alike hs hidden (record m { stack = with_number s m.stack at v }) rs (with_number s st at v)
    with_stack s at v le hid room free =
        let fits : at + bytes_of s ≤ length m.stack = omega (arith, le, h.sound.stack) in
        let fits_too : at + bytes_of s ≤ length st = omega (arith, le, h.whole) in
        let same_length = length-with_any s m.stack at v fits in
        record {
          sound = sound_stack m (with_number s m.stack at v) h.sound (same_length ∙ h.sound.stack) (with_below s m.stack at v h.sound.stack_bytes);
          size = h.size;
          others = h.others;
          homes = λ k in_hs. number_stays s m.stack at v (word_place (reg m Fp) k.local) fits (omega (arith, room k in_hs, h.sound.stack)) same_length
              (apart (reg m Fp) at s k (λ j lt. hid k j in_hs lt) free) ∙ h.homes k in_hs;
          whole = length-with_any s st at v fits_too ∙ h.whole;
          same = λ i shown. ⊎_elim
              (λ lt. with_outside s st at v i fits_too (inl lt) ∙ h.same i shown ∙ sym (with_outside s m.stack at v i fits (inl lt)))
              (λ ge. ⊎_elim
              (λ lt. with_inside s st m.stack at v i fits_too fits ge lt)
              (λ le. with_outside s st at v i fits_too (inr le) ∙ h.same i shown ∙ sym (with_outside s m.stack at v i fits (inr le)))
              (cases_lt i (at + bytes_of s)))
              (cases_lt i at);
        }

    module _ (hid : (k : Home) (j : ℕ) → Has hs k → j < 4 → hidden (word_place (reg m Fp) k.local + j)) (room : (k : Home) → Has hs k → word_place (reg m Fp) k.local + 4 ≤ 8388608) where
      write_by : (a : ℕ) (s : Size) (v : ℕ) → FreeAt a s → (t : Result Region Stop) → LiesAt m a s t
          → Kept m (t >>= λ (r : Region). Ok (with_number_at m s v r)) (t >>= λ (r : Region). Ok (with_number_at (beside m rs st) s v r))
      write_by a s v free (Ok (regions.Area at)) l = record { rs = rs; st = st; does = refl; alike = with_area s at v l.1; fp = refl; ap_same = refl; sp = refl }
      write_by a s v free (Ok (regions.Stack at)) l = record {
        rs = rs;
        st = with_number s st at v;
        does = refl;
        alike = with_stack s at v l.2 hid room (λ j lt hidden_so. free j lt (subst (λ (x : ℕ). hidden (x + j)) l.0 hidden_so));
        fp = refl;
        ap_same = refl;
        sp = refl;
      }
      write_by a s v free (Err e) l = l

      pub write_free : (a : ℕ) (s : Size) (v : ℕ) → FreeAt a s → Kept m (written m a s v) (written (beside m rs st) a s v)
      unfolding written
      write_free a s v free =
          subst (λ (t : Result Region Stop). Kept m (touched m a s >>= λ (r : Region). Ok (with_number_at m s v r)) (t >>= λ (r : Region). Ok (with_number_at (beside m rs st) s v r)))
          (sym (touched_same m rs st a s)) (write_by a s v free (touched m a s) (lies m a s))

    pub write_data : (a : ℕ) (s : Size) (v : ℕ) → in_area m a s ≡ true → Kept m (written m a s v) (written (beside m rs st) a s v)
    unfolding written
    write_data a s v e =
        let l = subst (LiesAt m a s) (data_touched m a s e) (lies m a s) in
        subst (λ (t : Result Region Stop). Kept m (t >>= λ (r : Region). Ok (with_number_at m s v r)) (touched (beside m rs st) a s >>= λ (r : Region). Ok (with_number_at (beside m rs st) s v r)))
        (sym (data_touched m a s e))
        (subst (λ (t : Result Region Stop). Kept m (Ok (record m { area = with_number s m.area (a - 65536) v })) (t >>= λ (r : Region). Ok (with_number_at (beside m rs st) s v r)))
        (sym (touched_same m rs st a s ∙ data_touched m a s e))
        (record { rs = rs; st = st; does = refl; alike = with_area s (a - 65536) v l.1; fp = refl; ap_same = refl; sp = refl }))
