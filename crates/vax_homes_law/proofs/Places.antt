-- Where operands stand in two states of which one has locals in registers.
use Rattle.std.proofs.Common.{◌≡◌, ◌⊎◌, inl, inr, ⊎_elim, ℕ, ◌+◌, ◌-◌, ◌*◌, ◌^◌, ◌<◌, ◌≤◌, Bool, true, cond, List, Result, Ok, Err, refl}
use Rattle.std.proofs.Common.{sym, ap, subst, ◌∙◌, arith, length-set, get_or-set_other, get_or-set_same}
use Rattle.std.specs.Prelude.{slice_index, slice_set, ◌&&◌, nat_lt}
use Rattle.std.proofs.lemmas.Bool.{cases_lt, cases_eq, ne_eqb}
use Rattle.gg_base.specs.declared.size.Size.{Size}
use Rattle.gg_base.specs.declared.size.Size.TheVariants.{Long}
use Rattle.gg_base.specs.Sizes.{low}
use Rattle.gg_base.specs.LittleEndian.{number_in, with_number}
use Rattle.vax_confined.specs.vax_core.specs.declared.register.Reg.{Reg}
use Rattle.vax_confined.specs.vax_core.specs.declared.register.Reg.TheVariants.{Ap, Fp}
use Rattle.vax_confined.specs.vax_core.specs.Registers.{reg_number}
use Rattle.vax_confined.specs.vax_machine.specs.declared.turn.Stop.{Stop}
use Rattle.vax_confined.specs.vax_machine.specs.declared.turn.Stop.TheVariants as stops
use Rattle.vax_confined.specs.vax_machine.specs.declared.memory.Region.{Region}
use Rattle.vax_confined.specs.vax_machine.specs.declared.memory.Region.TheVariants as regions
use Rattle.vax_confined.specs.vax_machine.specs.declared.operands.Location.{Location}
use Rattle.vax_confined.specs.vax_machine.specs.declared.operands.Location.TheVariants as locations
use Rattle.vax_confined.specs.vax_machine.specs.State.{State, reg, with_reg, stack_full, ◌>>=◌}
use Rattle.vax_confined.specs.vax_machine.specs.Memory.{touched, read, written, with_number_at, register_set, merged}
use Rattle.vax_confined.specs.vax_machine.specs.Operands.{fetched, put}
use Rattle.vax_confined.specs.vax_machine_lists.proofs.Longwords.{length-with, with_below, number-with, below_get}
use Rattle.vax_confined.specs.vax_machine_lists.proofs.Numbers.{merged_small}
use Rattle.vax_homes.specs.declared.choose.Home.{Home}
use Rattle.vax_confined.specs.Confined.{in_area}
use Rattle.vax_homes_law.specs.Alike.{Has, IsPaired, beside, word_place, AreLaid, Alike}
use Rattle.vax_homes_law.proofs.Bytes.{with_outside, number_stays}
use Rattle.vax_homes_law.proofs.Memory.{LiesAt, lies, FreeAt, read_free, read_data, home_read, Kept, write_free, write_data, sound_register}

module _ (hs : List Home) (paired : IsPaired hs) (hidden : ℕ → Type 0) (args low_end : ℕ) where
  -- a register that is no home
  abbrev pub IsOther : Reg → Type 0
  IsOther r = (k : Home) → Has hs k → reg_number k.register ≡ reg_number r → ⊥

  module _ (m : State) (rs st : List ℕ) (h : Alike hs hidden m rs st) (laid : AreLaid hs hidden (reg m Fp) (reg m Ap) args low_end) where
    -- the home of a local, and its register in the other state
    pub record IsHome (a : ℕ) (other : Location) : Type 0 where
      pub home : Home
      pub in_hs : Has hs home
      pub at : a ≡ reg m Fp - 4 * (home.local + 1)
      pub held : other ≡ locations.Register home.register

    -- where an operand stands, and where it stands in the other state
    abbrev pub Standing : Location → Location → Size → Type 0
    Standing (locations.Number n) other s = (other ≡ locations.Number n) × (n < 2 ^ 32)
    Standing (locations.Register r) other s = (other ≡ locations.Register r) × (reg_number r < 12) × IsOther r
    Standing (locations.Memory a) other s = ((other ≡ locations.Memory a) × ((in_area m a s ≡ true) ⊎ FreeAt hs paired hidden a s)) ⊎ (IsHome a other × (s ≡ Long))

    -- ---- what is read there

    register_same : (r : Reg) → IsOther r → reg (beside m rs st) r ≡ reg m r
    register_same r o = h.others (reg_number r) o

    pub fetched_so : (l other : Location) (s : Size) → Standing l other s → (v : ℕ) → fetched m l s ≡ Ok v → fetched (beside m rs st) other s ≡ Ok v
    fetched_so (locations.Number n) other s g v e = ap (λ (x : Location). fetched (beside m rs st) x s) g.0 ∙ e
    fetched_so (locations.Register r) other s g v e = ap (λ (x : Location). fetched (beside m rs st) x s) g.0 ∙ ap (λ (x : ℕ). Ok (low s x)) (register_same r g.2) ∙ e
    fetched_so (locations.Memory a) other s (inl g) v e =
        ap (λ (x : Location). fetched (beside m rs st) x s) g.0
        ∙ ⊎_elim (λ inside. read_data hs paired hidden m rs st h a s inside) (λ free. read_free hs paired hidden m rs st h a s free) g.1 ∙ e
    fetched_so (locations.Memory a) other s (inr g) v e =
        let k = g.0 in
        let known : read m (reg m Fp - 4 * (k.home.local + 1)) Long ≡ Ok v = ap (λ (x : ℕ). read m x Long) (sym k.at) ∙ ap (λ (x : Size). read m a x) (sym g.1) ∙ e in
        ap (λ (x : Location). fetched (beside m rs st) x s) k.held ∙ ap (fetched (beside m rs st) (locations.Register k.home.register)) g.1
        ∙ ap Ok (home_read hs paired hidden m rs st h k.home k.in_hs (laid.bottom k.home k.in_hs) v known)

    -- ---- what is put there

    -- an other register is set
    with_other : (r : Reg) (v : ℕ) → IsOther r → reg_number r < 12 → v < 2 ^ 32 → Alike hs hidden (with_reg m r v) (slice_set rs (reg_number r) v) st
    with_other r v o lt small = record {
      sound = sound_register m (reg_number r) v h.sound small;
      size = length-set rs (reg_number r) v ∙ h.size;
      others = λ q none. ⊎_elim
          (λ e. ap (slice_index (slice_set rs (reg_number r) v)) e ∙ get_or-set_same rs (reg_number r) v 0 (omega (arith, lt, h.size))
          ∙ sym (get_or-set_same m.registers (reg_number r) v 0 (omega (arith, lt, h.sound.registers))) ∙ sym (ap (slice_index (slice_set m.registers (reg_number r) v)) e))
          (λ ne. get_or-set_other rs (reg_number r) q v 0 ne ∙ h.others q none ∙ sym (get_or-set_other m.registers (reg_number r) q v 0 ne))
          (cases_eq q (reg_number r));
      homes = λ k in_hs.
          ap (λ (x : ℕ). number_in Long m.stack (word_place x k.local)) (get_or-set_other m.registers (reg_number r) 13 v 0 (λ e. omega (arith, e, lt)))
          ∙ h.homes k in_hs ∙ sym (get_or-set_other rs (reg_number r) (reg_number k.register) v 0 (λ e. o k in_hs e));
      whole = h.whole;
      same = h.same;
    }

    not_sp : (r : Reg) (n : State) (v : ℕ) → reg_number r < 12 → register_set n r v ≡ Ok (with_reg n r v)
    unfolding register_set
    not_sp r n v lt = ap (λ (b : Bool). cond (b && nat_lt v 2139095040) (Err stack_full) (Ok (with_reg n r v))) (ne_eqb (reg_number r) 14 (λ e. omega (arith, e, lt)))

    put_register : (r : Reg) (v w : ℕ) → IsOther r → reg_number r < 12 → v < 2 ^ 32 → v ≡ w → Kept hs paired hidden m (register_set m r v) (register_set (beside m rs st) r w)
    put_register r v w o lt small same =
        subst (λ (t : Result State Stop). Kept hs paired hidden m t (register_set (beside m rs st) r w)) (sym (not_sp r m v lt))
        (record {
          rs = slice_set rs (reg_number r) v;
          st = st;
          does = ap (register_set (beside m rs st) r) (sym same) ∙ not_sp r (beside m rs st) v lt;
          alike = with_other r v o lt small;
          fp = get_or-set_other m.registers (reg_number r) 13 v 0 (λ e. omega (arith, e, lt));
          ap_same = get_or-set_other m.registers (reg_number r) 12 v 0 (λ e. omega (arith, e, lt));
          sp = get_or-set_other m.registers (reg_number r) 14 v 0 (λ e. omega (arith, e, lt));
        })

    -- a home is set: the word in the first state, the register in the other
    module _ (k : Home) (in_hs : Has hs k) (v : ℕ) (small : v < 2 ^ 32) where
      place : ℕ
      place = word_place (reg m Fp) k.local

      fits : place + 4 ≤ 8388608
      unfolding place
      fits = omega (arith, laid.bottom k in_hs, laid.top)

      homes_apart : (g : Home) → Has hs g → (g.local ≡ k.local → ⊥) → (word_place (reg m Fp) g.local + 4 ≤ place) ⊎ (place + 4 ≤ word_place (reg m Fp) g.local)
      unfolding place
      homes_apart g g_in ne = ⊎_elim
          (λ lt. inr (omega (arith, lt, laid.bottom g g_in, laid.bottom k in_hs)))
          (λ ge. inl (omega (arith, ge, ne, laid.bottom g g_in, laid.bottom k in_hs)))
          (cases_lt g.local k.local)

      home_set : (g : Home) → Has hs g → number_in Long (with_number Long m.stack place v) (word_place (reg m Fp) g.local) ≡ slice_index (slice_set rs (reg_number k.register) v)
          (reg_number g.register)
      unfolding place
      home_set g g_in =
          let high = paired.high k in_hs in
          let size = h.sound.stack in
          ⊎_elim
          (λ e. let one = paired.registers g k g_in in_hs e in
          ap (λ (x : Home). number_in Long (with_number Long m.stack place v) (word_place (reg m Fp) x.local)) one
          ∙ number-with m.stack place v (omega (arith, fits, size)) small
          ∙ sym (get_or-set_same rs (reg_number k.register) v 0 (omega (arith, high, h.size)))
          ∙ ap (slice_index (slice_set rs (reg_number k.register) v)) (sym e))
          (λ ne. number_stays Long m.stack place v (word_place (reg m Fp) g.local) (omega (arith, fits, size)) (omega (arith, laid.bottom g g_in, laid.top, size))
          (length-with m.stack place v (omega (arith, fits, size))) (homes_apart g g_in (λ same. ne (ap (λ (x : Home). reg_number x.register) (paired.locals g k g_in in_hs same))))
          ∙ h.homes g g_in ∙ sym (get_or-set_other rs (reg_number k.register) (reg_number g.register) v 0 ne))
          (cases_eq (reg_number g.register) (reg_number k.register))

      with_home : Alike hs hidden (record m { stack = with_number Long m.stack place v }) (slice_set rs (reg_number k.register) v) st
      unfolding place
      with_home = record {
        sound = record {
          going = h.sound.going;
          registers = h.sound.registers;
          longwords = h.sound.longwords;
          stack = length-with m.stack place v (omega (arith, fits, h.sound.stack)) ∙ h.sound.stack;
          stack_bytes = with_below Long m.stack place v h.sound.stack_bytes;
          area = h.sound.area;
          area_bytes = h.sound.area_bytes;
          input_bytes = h.sound.input_bytes;
        };
        size = length-set rs (reg_number k.register) v ∙ h.size;
        others = λ q none. get_or-set_other rs (reg_number k.register) q v 0 (λ e. none k in_hs (sym e)) ∙ h.others q none;
        homes = home_set;
        whole = h.whole;
        same = λ i shown. h.same i shown ∙ sym (with_outside Long m.stack place v i (omega (arith, fits, h.sound.stack)) (outside i shown));
      }
        where
          outside : (i : ℕ) → (hidden i → ⊥) → (i < place) ⊎ (place + 4 ≤ i)
          outside i shown = ⊎_elim (λ lt. inl lt)
              (λ ge. ⊎_elim (λ lt. absurd (shown (subst hidden (omega (arith, ge)) (laid.homes k (i - place) in_hs (omega (arith, ge, lt)))))) (λ le. inr le) (cases_lt i (place + 4)))
              (cases_lt i place)

      home_by : (t : Result Region Stop) → LiesAt m (reg m Fp - 4 * (k.local + 1)) Long t
          → Kept hs paired hidden m (t >>= λ (r : Region). Ok (with_number_at m Long v r)) (register_set (beside m rs st) k.register v)
      unfolding place
      home_by (Ok (regions.Area at)) l = absurd (omega (arith, l.0, l.1, h.sound.area, laid.bottom k in_hs))
      home_by (Ok (regions.Stack at)) l = record {
        rs = slice_set rs (reg_number k.register) v;
        st = st;
        does = not_sp k.register (beside m rs st) v (paired.high k in_hs);
        alike = subst (λ (x : ℕ). Alike hs hidden (record m { stack = with_number Long m.stack x v }) (slice_set rs (reg_number k.register) v) st) (sym l.0) with_home;
        fp = refl;
        ap_same = refl;
        sp = refl;
      }
      home_by (Err e) l = l

      put_home : Kept hs paired hidden m (written m (reg m Fp - 4 * (k.local + 1)) Long v) (register_set (beside m rs st) k.register v)
      unfolding written
      put_home = home_by (touched m (reg m Fp - 4 * (k.local + 1)) Long) (lies m (reg m Fp - 4 * (k.local + 1)) Long)

    abbrev PutAlike : Location → Location → Size → ℕ → Type 0
    PutAlike l other s v = Kept hs paired hidden m (put m l s v) (put (beside m rs st) other s v)

    pub put_so : (l other : Location) (s : Size) (v : ℕ) → v < 2 ^ 32 → Standing l other s → PutAlike l other s v
    put_so (locations.Number n) other s v small g = tt
    put_so (locations.Register r) other s v small g =
        subst (λ (x : Location). PutAlike (locations.Register r) x s v) (sym g.0)
        (put_register r (merged s (reg m r) v) (merged s (reg (beside m rs st) r) v) g.2 g.1
        (merged_small s (reg m r) v (below_get (2 ^ 32) (reg_number r) m.registers (omega arith) h.sound.longwords) small) (ap (λ (x : ℕ). merged s x v) (sym (register_same r g.2))))
    put_so (locations.Memory a) other s v small (inl g) =
        subst (λ (x : Location). PutAlike (locations.Memory a) x s v) (sym g.0)
        (⊎_elim (λ inside. write_data hs paired hidden m rs st h a s v inside)
        (λ free. write_free hs paired hidden m rs st h (λ k j in_hs lt. laid.homes k j in_hs lt) (λ k in_hs. omega (arith, laid.bottom k in_hs, laid.top)) a s v free) g.1)
    put_so (locations.Memory a) other s v small (inr g) =
        let k = g.0 in
        subst (λ (x : Location). PutAlike (locations.Memory a) x s v) (sym k.held)
        (subst (λ (z : Size). PutAlike (locations.Memory a) (locations.Register k.home.register) z v) (sym g.1)
        (subst (λ (x : ℕ). PutAlike (locations.Memory x) (locations.Register k.home.register) Long v) (sym k.at) (put_home k.home k.in_hs v small)))
