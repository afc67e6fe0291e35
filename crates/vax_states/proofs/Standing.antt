-- What leaves a state standing for a state of a tree program, and what is read in such a state.
use Rattle.std.proofs.Common.{◌≡◌, ℕ, ◌+◌, ◌-◌, ◌^◌, ◌<◌, ◌≤◌, Bool, true, false, cond, List, length, Some, None, Ok, Err, refl, sym, ap, subst, ◌∙◌, arith, get_or-set_same, get_or-set_other}
use Rattle.std.specs.Prelude.{slice_get, slice_set, nat_lt, nat_le, ◌&&◌}
use Rattle.std.proofs.lemmas.Bool.{le-ltb, leb-true}
use Rattle.std.proofs.lemmas.Option.{slice_get_within, same_Some}
use Rattle.gg_base.specs.declared.size.Size.{Size}
use Rattle.gg_base.specs.declared.size.Size.TheVariants.{Byte, Word, Long}
use Rattle.gg_base.specs.Arithmetic.{sub32}
use Rattle.gg_base.specs.Sizes.{bytes_of}
use Rattle.gg_base.specs.LittleEndian.{number_in, with_number}
use Rattle.vax_machine_lists.specs.vax_core.specs.declared.register.Reg.{Reg}
use Rattle.vax_machine_lists.specs.vax_core.specs.declared.register.Reg.TheVariants.{Ap, Fp, Sp}
use Rattle.vax_machine_lists.specs.vax_core.specs.Registers.{reg_number}
use Rattle.vax_machine_lists.specs.vax_machine_live.specs.declared.frame.Frame.{Frame}
use Rattle.vax_machine_lists.specs.vax_machine_live.specs.Control.{in_control}
use Rattle.vax_machine_lists.specs.vax_machine.specs.State.{State, reg, with_reg, stack_full, ◌>>=◌}
use Rattle.vax_machine_lists.specs.vax_machine.specs.Memory.{read, written, register_set}
use Rattle.vax_machine_lists.specs.vax_machine.specs.Calls.{pushed}
use Rattle.vax_machine_lists.specs.vax_machine.specs.Area.{label_address}
use Rattle.tree_core.specs.declared.program.Object.{Object}
use Rattle.tree_core.specs.Area as trees
use Rattle.tree_meaning.specs.State.{Activation, Extent}
use Rattle.tree_meaning.specs.State.{State as Trees}
use Rattle.tree_meaning.specs.Steps.{with_local_set, with_pushed}
use Rattle.vax_states.specs.Sentences.{with_argument}
use Rattle.vax_states.specs.Stack.{long_at, word_of, argument_of, Holds, Hold, SameFrom}
use Rattle.vax_machine_lists.specs.Sound.{IsSound}
use Rattle.vax_states.specs.Agreeing.{Agrees, HasRoom}
use Rattle.vax_states.proofs.Pieces.{stored_below, low_fp, fp_high, word_low, word_high, local_word, argument_high, hold_kept, hold_end, holds_kept, words_free, arguments_free}
use Rattle.vax_states.proofs.Touching.{stack_read, stack_written, area_read, area_written}
use Rattle.vax_states.proofs.Keeping.{sound_register, sound_stack, sound_area, word_holds, local_holds, argument_holds, push_holds}

module _ (objects : List Object) (e : Extent) (es : List Extent) (t : Trees) (m : State) (h : Agrees objects e es t m) where
  -- ---- where things are

  pub high_top : h.high ≤ 2147483648
  high_top = hold_end m.stack h.outer es t.callers h.high h.callers

  high_stack : h.high ≤ 2139095040 + length m.stack
  high_stack = omega (arith, high_top, h.sound.stack)

  pub fp_low : reg m Sp ≤ h.innermost.fp
  fp_low = low_fp m.stack h.innermost e t.running (reg m Sp) h.high h.running

  pub fp_high_is : h.innermost.fp + 24 ≤ h.high
  fp_high_is = fp_high m.stack h.innermost e t.running (reg m Sp) h.high h.running

  -- no control words stand from fp down, nor where the arguments are
  pub free_below : (a k : ℕ) → a + k ≤ h.innermost.fp → in_control m.frames a k ≡ false
  free_below a k le = ap (λ (fs : List Frame). in_control fs a k) h.frames ∙ words_free m.stack h.outer h.innermost e es t.running t.callers (reg m Sp) h.high h.running h.callers a k le

  free_arguments : (a k : ℕ) → h.innermost.ap ≤ a → a + k ≤ h.high → in_control m.frames a k ≡ false
  free_arguments a k from to =
      ap (λ (fs : List Frame). in_control fs a k) h.frames ∙ arguments_free m.stack h.outer h.innermost e es t.running t.callers (reg m Sp) h.high h.running h.callers a k from to

  -- ---- what is read

  pub word_read : (k : ℕ) → k < e.words → read m (word_of (reg m Fp) k) Long ≡ Ok (long_at m.stack (word_of h.innermost.fp k))
  word_read k lt =
      let over = word_low m.stack h.innermost e t.running (reg m Sp) h.high h.running k lt in
      let under = word_high m.stack h.innermost e t.running (reg m Sp) h.high h.running k lt in
      ap (λ (a : ℕ). read m (word_of a k) Long) h.fp
      ∙ stack_read m (word_of h.innermost.fp k) h.sound.area (omega (arith, over, h.bottom)) (omega (arith, under, fp_high_is, high_top)) (free_below (word_of h.innermost.fp k) 4 under)

  pub local_read : (k v : ℕ) → t.running.locals k ≡ Some v → read m (word_of (reg m Fp) k) Long ≡ Ok v
  local_read k v is = word_read k (local_word m.stack h.innermost e t.running (reg m Sp) h.high h.running k v is) ∙ ap (λ (w : ℕ). Ok w) (h.running.local k v is)

  pub argument_read : (i v : ℕ) → slice_get t.running.arguments i ≡ Some v → read m (argument_of (reg m Ap) (i + 1)) Long ≡ Ok v
  argument_read i v is =
      let there = slice_get_within t.running.arguments i v is in
      let under = argument_high m.stack h.innermost e t.running (reg m Sp) h.high h.running i there in
      let down = fp_low in
      ap (λ (a : ℕ). read m (argument_of a (i + 1)) Long) h.ap
      ∙ stack_read m (argument_of h.innermost.ap (i + 1)) h.sound.area (omega (arith, down, h.bottom, h.running.control, h.running.top)) (omega (arith, under, high_top))
      (free_arguments (argument_of h.innermost.ap (i + 1)) 4 (omega arith) under)
      ∙ ap (λ (w : ℕ). Ok w) (h.running.argument i v is)

  -- a number in the data area
  area_read_by : (size : Size) (a v : ℕ) (b c : Bool) → nat_le 65536 a ≡ b → nat_le (a + bytes_of size) (65536 + length t.area) ≡ c
      → cond (b && c) (Some (number_in size t.area (a - 65536))) None ≡ Some v → read m a size ≡ Ok v
  area_read_by size a v false c p q is = absurd cc
  area_read_by size a v true false p q is = absurd cc
  area_read_by size a v true true p q is =
      let low = leb-true 65536 a p in
      let up : a + bytes_of size ≤ 65536 + length m.area = omega (arith, leb-true (a + bytes_of size) (65536 + length t.area) q, ap length h.area) in
      area_read m a size low up ∙ ap (λ (x : ℕ). Ok x) (same_number size (a - 65536) ∙ same_Some (number_in size t.area (a - 65536)) v is)
    where
      same_number : (size : Size) (at : ℕ) → number_in size m.area at ≡ number_in size t.area at
      same_number Byte at = ap (λ (l : List ℕ). number_in Byte l at) h.area
      same_number Word at = ap (λ (l : List ℕ). number_in Word l at) h.area
      same_number Long at = ap (λ (l : List ℕ). number_in Long l at) h.area

  pub area_read_so : (size : Size) (a v : ℕ) → trees.fetched size t.area a ≡ Some v → read m a size ≡ Ok v
  area_read_so size a v is = area_read_by size a v (nat_le 65536 a) (nat_le (a + bytes_of size) (65536 + length t.area)) refl refl is

  -- ---- what stays

  -- the trees' state may have another innermost call, as long as the outer calls hold the same
  pub rebuilt : (n : State) (s : Trees) → IsSound n → n.layout ≡ m.layout → n.area ≡ s.area → n.input ≡ s.input → n.frames ≡ m.frames → reg n Fp ≡ reg m Fp → reg n Ap ≡ reg m Ap
      → Holds n.stack h.innermost e s.running (reg n Sp) h.high → s.callers ≡ t.callers → SameFrom h.high m.stack n.stack → 2139095040 ≤ reg n Sp → Agrees objects e es s n
  rebuilt n s sound layout area input frames fp ap_is holds callers same low = record {
    sound = sound;
    labelled = λ i o is. ap (λ l. label_address l o.label) layout ∙ h.labelled i o is;
    area = area;
    input = input;
    innermost = h.innermost;
    outer = h.outer;
    high = h.high;
    frames = frames ∙ h.frames;
    fp = fp ∙ h.fp;
    ap = ap_is ∙ h.ap;
    running = holds;
    callers = subst (λ (x : List Activation). Hold n.stack h.outer es x h.high) (sym callers) (hold_kept m.stack n.stack h.outer es t.callers h.high h.callers same);
    bottom = low;
  }

  -- registers other than ap, fp and sp, the condition codes, the place, the code, and the stack below sp may change
  pub kept : (n : State) → IsSound n → n.layout ≡ m.layout → n.area ≡ m.area → n.input ≡ m.input → n.frames ≡ m.frames → reg n Fp ≡ reg m Fp → reg n Ap ≡ reg m Ap → reg n Sp ≡ reg m Sp
      → SameFrom (reg m Sp) m.stack n.stack → Agrees objects e es t n
  kept n sound layout area input frames fp ap_is sp same =
      let up = fp_high_is in
      let down = fp_low in
      rebuilt n t sound layout (area ∙ h.area) (input ∙ h.input) frames fp ap_is
      (subst (λ (low : ℕ). Holds n.stack h.innermost e t.running low h.high) (sym sp) (holds_kept m.stack h.innermost e t.running (reg m Sp) h.high h.running n.stack same))
      refl
      (λ a from. same a (omega (arith, up, down, from)))
      (subst (λ (low : ℕ). 2139095040 ≤ low) (sym sp) h.bottom)

  -- a register among r0 to r11 is set
  pub register_kept : (r : Reg) (v : ℕ) → reg_number r < 12 → v < 2 ^ 32 → Agrees objects e es t (with_reg m r v)
  register_kept r v lt fits =
      kept (with_reg m r v) (sound_register m (reg_number r) v h.sound fits) refl refl refl refl
      (get_or-set_other m.registers (reg_number r) 13 v 0 (λ q. omega (arith, q, lt)))
      (get_or-set_other m.registers (reg_number r) 12 v 0 (λ q. omega (arith, q, lt)))
      (get_or-set_other m.registers (reg_number r) 14 v 0 (λ q. omega (arith, q, lt)))
      (λ a from. refl)

  -- ---- what is written

  abbrev with_stack : ℕ → ℕ → State
  with_stack a v = record m { stack = with_number Long m.stack (a - 2139095040) v }

  in_stack : (a v : ℕ) → 2139095040 ≤ a → a + 4 ≤ h.high → in_control m.frames a 4 ≡ false → written m a Long v ≡ Ok (with_stack a v)
  in_stack a v low up free = stack_written m a v h.sound.area low (omega (arith, up, high_top)) free

  -- a word that may be used freely
  pub word_written : (k v : ℕ) → e.locals ≤ k → k < e.words
      → (written m (word_of (reg m Fp) k) Long v ≡ Ok (with_stack (word_of h.innermost.fp k) v)) × Agrees objects e es t (with_stack (word_of h.innermost.fp k) v)
  word_written k v free lt =
      let over = word_low m.stack h.innermost e t.running (reg m Sp) h.high h.running k lt in
      let under = word_high m.stack h.innermost e t.running (reg m Sp) h.high h.running k lt in
      let up = fp_high_is in
      let top = high_top in
      let x = word_of h.innermost.fp k in (
        ap (λ (a : ℕ). written m (word_of a k) Long v) h.fp ∙ in_stack x v (omega (arith, over, h.bottom)) (omega (arith, under, up)) (free_below x 4 under),
        rebuilt (with_stack x v) t (sound_stack m (x - 2139095040) v h.sound (omega (arith, under, up, top, over, h.bottom))) refl h.area h.input refl refl refl
            (word_holds m.stack h.innermost e t.running (reg m Sp) h.high h.running h.bottom high_stack k v free lt) refl
            (stored_below m.stack x v h.high (omega (arith, over, h.bottom)) (omega (arith, under, up, high_stack)) (omega (arith, under, up))) h.bottom,
      )

  -- a local
  pub local_written : (k v : ℕ) → k < e.locals → v < 2 ^ 32
      → (written m (word_of (reg m Fp) k) Long v ≡ Ok (with_stack (word_of h.innermost.fp k) v)) × Agrees objects e es (with_local_set t k v) (with_stack (word_of h.innermost.fp k) v)
  local_written k v is fits =
      let lt : k < e.words = omega (arith, is, h.running.locals) in
      let over = word_low m.stack h.innermost e t.running (reg m Sp) h.high h.running k lt in
      let under = word_high m.stack h.innermost e t.running (reg m Sp) h.high h.running k lt in
      let up = fp_high_is in
      let top = high_top in
      let x = word_of h.innermost.fp k in (
        ap (λ (a : ℕ). written m (word_of a k) Long v) h.fp ∙ in_stack x v (omega (arith, over, h.bottom)) (omega (arith, under, up)) (free_below x 4 under),
        rebuilt (with_stack x v) (with_local_set t k v) (sound_stack m (x - 2139095040) v h.sound (omega (arith, under, up, top, over, h.bottom))) refl h.area h.input refl refl refl
            (local_holds m.stack h.innermost e t.running (reg m Sp) h.high h.running h.bottom high_stack k v is fits) refl
            (stored_below m.stack x v h.high (omega (arith, over, h.bottom)) (omega (arith, under, up, high_stack)) (omega (arith, under, up))) h.bottom,
      )

  -- an argument
  pub argument_written : (k v : ℕ) → k < length t.running.arguments → v < 2 ^ 32
      → (written m (argument_of (reg m Ap) (k + 1)) Long v ≡ Ok (with_stack (argument_of h.innermost.ap (k + 1)) v))
      × Agrees objects e es (with_argument t k v) (with_stack (argument_of h.innermost.ap (k + 1)) v)
  argument_written k v is fits =
      let under = argument_high m.stack h.innermost e t.running (reg m Sp) h.high h.running k is in
      let down = fp_low in
      let up = fp_high_is in
      let top = high_top in
      let x = argument_of h.innermost.ap (k + 1) in
      let low : 2139095040 ≤ x = omega (arith, down, h.bottom, h.running.control, h.running.top) in (
        ap (λ (a : ℕ). written m (argument_of a (k + 1)) Long v) h.ap ∙ in_stack x v low under (free_arguments x 4 (omega arith) under),
        rebuilt (with_stack x v) (with_argument t k v) (sound_stack m (x - 2139095040) v h.sound (omega (arith, under, top, low))) refl h.area h.input refl refl refl
            (argument_holds m.stack h.innermost e t.running (reg m Sp) h.high h.running h.bottom high_stack k v is fits) refl
            (stored_below m.stack x v h.high low (omega (arith, under, high_stack)) under) h.bottom,
      )

  -- a number in the data area
  area_by : (size : Size) (a v : ℕ) (area : List ℕ) (b c : Bool) → nat_le 65536 a ≡ b → nat_le (a + bytes_of size) (65536 + length t.area) ≡ c
      → cond (b && c) (Some (with_number size t.area (a - 65536) v)) None ≡ Some area
      → (written m a size v ≡ Ok (record m { area = area })) × Agrees objects e es (record t { area = area }) (record m { area = area })
  area_by size a v area false c p q is = absurd cc
  area_by size a v area true false p q is = absurd cc
  area_by size a v area true true p q is =
      let low = leb-true 65536 a p in
      let up : a + bytes_of size ≤ 65536 + length m.area = omega (arith, leb-true (a + bytes_of size) (65536 + length t.area) q, ap length h.area) in
      let made : with_number size m.area (a - 65536) v ≡ area = same_bytes size (a - 65536) v ∙ same_Some (with_number size t.area (a - 65536) v) area is in
      let sound = sound_area m size (a - 65536) v h.sound (omega (arith, low, up)) in (
        area_written m a size v low up ∙ ap (λ (l : List ℕ). Ok (record m { area = l })) made,
        rebuilt (record m { area = area }) (record t { area = area }) (subst (λ (l : List ℕ). IsSound (record m { area = l })) made sound) refl refl h.input refl refl refl h.running refl
            (λ x from. refl) h.bottom,
      )
    where
      same_bytes : (size : Size) (at v : ℕ) → with_number size m.area at v ≡ with_number size t.area at v
      same_bytes Byte at v = ap (λ (l : List ℕ). with_number Byte l at v) h.area
      same_bytes Word at v = ap (λ (l : List ℕ). with_number Word l at v) h.area
      same_bytes Long at v = ap (λ (l : List ℕ). with_number Long l at v) h.area

  pub area_written_so : (size : Size) (a v : ℕ) (area : List ℕ) → trees.stored size t.area a v ≡ Some area
      → (written m a size v ≡ Ok (record m { area = area })) × Agrees objects e es (record t { area = area }) (record m { area = area })
  area_written_so size a v area is = area_by size a v area (nat_le 65536 a) (nat_le (a + bytes_of size) (65536 + length t.area)) refl refl is

  -- one more argument is pushed
  abbrev lowered : ℕ → State
  lowered v = record m { registers = slice_set m.registers 14 (reg m Sp - 4); stack = with_number Long m.stack (reg m Sp - 4 - 2139095040) v }

  pub push_written : (v : ℕ) → HasRoom m → v < 2 ^ 32 → (pushed m v ≡ Ok (lowered v)) × Agrees objects e es (with_pushed t v) (lowered v)
  unfolding pushed register_set
  push_written v room fits =
      let space = room.space in
      let top = high_top in
      let up = fp_high_is in
      let down = fp_low in
      let small : reg m Sp < 2 ^ 32 = omega (arith, top, up, down) in
      let x : sub32 (reg m Sp) 4 ≡ reg m Sp - 4 = omega (arith, small, space) in
      let set : nat_lt (reg m Sp - 4) 2139095040 ≡ false = le-ltb (reg m Sp - 4) 2139095040 (omega (arith, space)) in
      let n = with_reg m Sp (reg m Sp - 4) in
      let sp_is : reg n Sp ≡ reg m Sp - 4 = get_or-set_same m.registers 14 (reg m Sp - 4) 0 (omega (arith, h.sound.registers)) in (
        ap (λ (sp : ℕ). cond (nat_lt sp 2139095040) (Err stack_full) (Ok (with_reg m Sp sp)) >>= λ (k : State). written k sp Long v) x
            ∙ ap (λ (b : Bool). cond b (Err stack_full) (Ok n) >>= λ (k : State). written k (reg m Sp - 4) Long v) set
            ∙ stack_written n (reg m Sp - 4) v h.sound.area (omega (arith, space)) (omega (arith, top, up, down)) (free_below (reg m Sp - 4) 4 (omega (arith, down, space))),
        rebuilt (lowered v) (with_pushed t v)
            (sound_stack n (reg m Sp - 4 - 2139095040) v (sound_register m 14 (reg m Sp - 4) h.sound (omega (arith, small))) (omega (arith, top, up, down, space))) refl h.area h.input refl
            (get_or-set_other m.registers 14 13 (reg m Sp - 4) 0 (λ q. omega (arith, q)))
            (get_or-set_other m.registers 14 12 (reg m Sp - 4) 0 (λ q. omega (arith, q)))
            (subst (λ (low : ℕ). Holds (with_number Long m.stack (reg m Sp - 4 - 2139095040) v) h.innermost e (with_pushed t v).running low h.high) (sym sp_is)
            (push_holds m.stack h.innermost e t.running (reg m Sp) h.high h.running h.bottom high_stack v (omega (arith, space)) fits))
            refl
            (stored_below m.stack (reg m Sp - 4) v h.high (omega (arith, space)) (omega (arith, top, up, down, space, h.sound.stack)) (omega (arith, up, down)))
            (omega (arith, sp_is, space)),
      )
