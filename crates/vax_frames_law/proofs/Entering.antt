-- A call of a function: its frame is made, and the state stands for the trees' state in which the function begins.
use Rattle.std.proofs.Common.{◌≡◌, ℕ, zero, suc, ◌+◌, ◌-◌, ◌*◌, ◌/◌, ◌%◌, ◌<◌, ◌≤◌, Bool, false, cond, List, [], ◌∷◌, ◌++◌, length, take, drop, Option, Some, Result, Ok, Err}
use Rattle.std.proofs.Common.{refl, sym, ap, subst, ◌∙◌, arith, get_or-set_same}
use Rattle.std.specs.Prelude.{slice_get, slice_set, nat_le}
use Rattle.std.specs.Int.RustNames.{count_ones}
use Rattle.std.proofs.lemmas.Bool.{le-ltb, lt-leb}
use Rattle.std.proofs.lemmas.List.{set-set}
use Rattle.std.proofs.lemmas.Nat.{ones-le}
use Rattle.std.proofs.lemmas.Option.{none-some}
use lib.Count.{ones_step}
use Rattle.gg_base.specs.declared.size.Size.TheVariants.{Long}
use Rattle.gg_base.specs.Arithmetic.{sub32}
use Rattle.gg_base.specs.LittleEndian.{with_number}
use Rattle.vax_core.specs.declared.register.Reg.TheVariants.{Ap, Fp, Sp}
use Rattle.vax_core.specs.declared.code.CodeItem.{CodeItem}
use Rattle.vax_core.specs.declared.code.CodeItem.TheVariants as item_kind
use Rattle.vax_machine_live.specs.declared.frame.Frame.{Frame}
use Rattle.vax_machine_live.specs.Control.{in_control}
use Rattle.vax_machine.specs.declared.turn.Stop.{Stop}
use Rattle.vax_machine.specs.declared.memory.Region.{Region}
use Rattle.vax_machine.specs.State.{State, reg, with_reg, cleared, stack_full, ◌>>=◌}
use Rattle.vax_machine.specs.Memory.{touched, written, register_set}
use Rattle.vax_machine.specs.Labels.{next_item}
use Rattle.vax_machine.specs.Area.{label_address}
use Rattle.vax_machine.specs.Calls.{pushed, reserved, all_reserved, entry_mask, entered, framed, called}
use Rattle.tree_core.specs.declared.program.Object.{Object}
use Rattle.tree_core.specs.declared.program.TreeFn.{TreeFn}
use Rattle.tree_meaning.specs.State.{Activation, begun, Extent}
use Rattle.tree_meaning.specs.State.{State as Trees}
use Rattle.vax_machine_live.proofs.OwnerLaws.{front_get}
use Rattle.vax_states.specs.Stack.{long_at, argument_of, Holds, Hold, caller, SameFrom}
use Rattle.vax_states.specs.vax_machine_lists.specs.Sound.{IsSound}
use Rattle.vax_states.specs.Agreeing.{AreLabelled, Agrees, HasRoom}
use Rattle.vax_frames_law.specs.Calling.{IsMask}
use Rattle.vax_states.proofs.Pieces.{stored_there, stored_below, holds_kept, hold_kept}
use Rattle.vax_states.proofs.Touching.{stack_touched, stack_written}
use Rattle.vax_states.proofs.Standing.{high_top, free_below, fp_low, fp_high_is}
use Rattle.vax_states.proofs.Popping.{dropped}

plain_set : (m : State) (y : ℕ) → 2139095040 ≤ y → register_set m Sp y ≡ Ok (with_reg m Sp y)
unfolding register_set
plain_set m y le = ap (λ (b : Bool). cond b (Err stack_full) (Ok (with_reg m Sp y))) (le-ltb y 2139095040 le)

-- ---- room for control words

module _ (m : State) (sound_registers : length m.registers ≡ 15) (small : length m.area ≤ 1048576) where
  -- the state with sp there
  abbrev at : ℕ → State
  at sp = record m { registers = slice_set m.registers 14 sp }

  at_again : (x y : ℕ) → with_reg (at x) Sp y ≡ at y
  at_again x y = ap (λ (l : List ℕ). record m { registers = l }) (set-set m.registers 14 x y)

  pub sp_at : (x : ℕ) → reg (at x) Sp ≡ x
  sp_at x = get_or-set_same m.registers 14 x 0 (omega (arith, sound_registers))

  pub set_at : (x y : ℕ) → 2139095040 ≤ y → register_set (at x) Sp y ≡ Ok (at y)
  unfolding register_set
  set_at x y le = ap (λ (b : Bool). cond b (Err stack_full) (Ok (with_reg (at x) Sp y))) (le-ltb y 2139095040 le) ∙ ap (λ (n : State). Ok n) (at_again x y)

  one_reserved : (x : ℕ) → 2139095044 ≤ x → x ≤ 2147483648 → ((a : ℕ) → a + 4 ≤ x → in_control m.frames a 4 ≡ false) → reserved (at x) ≡ Ok (at (x - 4))
  unfolding reserved
  one_reserved x low high free =
      let lower : sub32 (reg (at x) Sp) 4 ≡ x - 4 = omega (arith, sp_at x, low, high) in
      ap (λ (sp : ℕ). register_set (at x) Sp sp >>= λ (n : State). touched n sp Long >>= λ (r : Region). Ok n) lower
      ∙ ap (λ (t : Result State Stop). t >>= λ (n : State). touched n (x - 4) Long >>= λ (r : Region). Ok n) (set_at x (x - 4) (omega (arith, low)))
      ∙ ap (λ (t : Result Region Stop). t >>= λ (r : Region). Ok (at (x - 4)))
      (stack_touched (at (x - 4)) (x - 4) small (omega (arith, low)) (omega (arith, low, high)) (free (x - 4) (omega (arith, low))))

  all_are : (k x : ℕ) → 2139095040 + 4 * k ≤ x → x ≤ 2147483648 → ((a : ℕ) → a + 4 ≤ x → in_control m.frames a 4 ≡ false) → all_reserved k (at x) ≡ Ok (at (x - 4 * k))
  all_are zero x low high free = let z : x ≡ x - 4 * 0 = omega arith in ap (λ (y : ℕ). Ok (at y)) z
  all_are (suc k) x low high free =
      let z : x - 4 - 4 * k ≡ x - 4 * suc k = omega arith in
      ap (λ (t : Result State Stop). t >>= λ (n : State). all_reserved k n) (one_reserved x (omega (arith, low)) high free)
      ∙ all_are k (x - 4) (omega (arith, low)) (omega (arith, high)) (λ a le. free a (omega (arith, le, low)))
      ∙ ap (λ (y : ℕ). Ok (at y)) z

-- ---- the frame

pub few_saved : (mask : ℕ) → IsMask mask → count_ones mask ≤ 10
few_saved mask h =
    let a = ones_step mask in
    let b = ones_step (mask / 2) in
    let c = ones-le 10 (mask / 2 / 2) (omega (arith, h.high)) in
    omega (arith, h.low, a, b, c)

-- a state in which a call finds room: sp is a multiple of 4 in the stack, and no control words lie below it
pub record CanCall (m : State) : Type 0 where
  pub sound : IsSound m
  pub space : 2139095040 + 128 ≤ reg m Sp
  pub top : reg m Sp ≤ 2147483648
  pub aligned : reg m Sp % 4 ≡ 0
  pub live : length m.frames < 4096
  pub free : (a k : ℕ) → a + k ≤ reg m Sp → in_control m.frames a k ≡ false

-- where the number of arguments stands, and where the control words begin
abbrev pub number_at : State → ℕ
number_at m = reg m Sp - 4

abbrev pub frame_at : State → ℕ → ℕ
frame_at m mask = number_at m - 4 * (count_ones mask + 5)

abbrev pub stack_with : State → ℕ → List ℕ
stack_with m count = with_number Long m.stack (number_at m - 2139095040) count

abbrev pub frame_made : State → ℕ → Option ℕ → Frame
frame_made m mask back = record { fp = frame_at m mask; top = number_at m; ap = number_at m; mask = mask; saved = slice_set m.registers 14 (frame_at m mask); back = back }

-- the state behind a call, which goes on at a place
abbrev pub made : State → ℕ → ℕ → Option ℕ → ℕ → State
made m count mask back place = record m {
  stack = stack_with m count;
  frames = m.frames ++ frame_made m mask back ∷ [];
  registers = slice_set (slice_set (slice_set m.registers 14 (frame_at m mask)) 13 (frame_at m mask)) 12 (number_at m);
  conditions = cleared;
  place = place;
}

module _ (m : State) (can : CanCall m) (count place entry mask : ℕ) (back : Option ℕ) (is_mask : IsMask mask)
    (there : slice_get m.items (next_item m.items place) ≡ Some (item_kind.Mask mask)) (at_entry : next_item m.items place ≡ entry) where
  number_aligned : number_at m - number_at m % 4 ≡ number_at m
  number_aligned = omega (arith, can.aligned, can.space)

  abbrev stacked : State
  stacked = record m { stack = stack_with m count }

  abbrev with_frame : ℕ → ℕ → State
  with_frame fp top = record m {
    stack = stack_with m count;
    frames = m.frames ++ record { fp = fp; top = top; ap = number_at m; mask = mask; saved = slice_set m.registers 14 (frame_at m mask); back = back } ∷ [];
    registers = slice_set (slice_set (slice_set m.registers 14 (frame_at m mask)) 13 fp) 12 (number_at m);
    conditions = cleared;
    place = entry + 1;
  }

  abbrev stacked_at : ℕ → State
  stacked_at x = at stacked can.sound.registers can.sound.area x

  entered_is : entered (stacked_at (frame_at m mask)) (number_at m) (number_at m - number_at m % 4) mask (entry + 1) back ≡ Ok (made m count mask back (entry + 1))
  entered_is =
      let live : nat_le 4096 (length m.frames) ≡ false = lt-leb 4096 (length m.frames) can.live in
      ap (λ (b : Bool). cond b (Err stack_full) (Ok (with_frame (reg (stacked_at (frame_at m mask)) Sp) (number_at m - number_at m % 4)))) live
      ∙ ap (λ (fp : ℕ). Ok (with_frame fp (number_at m - number_at m % 4))) (sp_at stacked can.sound.registers can.sound.area (frame_at m mask))
      ∙ ap (λ (top : ℕ). Ok (with_frame (frame_at m mask) top)) number_aligned

  saved_room : 2139095040 + 4 * (count_ones mask + 5) ≤ number_at m
  saved_room = omega (arith, few_saved mask is_mask, can.space)

  framed_is : framed (stacked_at (number_at m)) (number_at m) (Some mask) entry back ≡ Ok (made m count mask back (entry + 1))
  framed_is =
      let f : Result State Stop → Result State Stop =
      λ r. r >>= λ (n : State). all_reserved (count_ones mask + 5) n >>= λ (k : State). entered k (number_at m) (number_at m - number_at m % 4) mask (entry + 1) back in
      let below : (a : ℕ) → a + 4 ≤ number_at m → in_control m.frames a 4 ≡ false = λ a le. can.free a 4 (omega (arith, le)) in
      ap (λ (x : ℕ). f (register_set (stacked_at (number_at m)) Sp x)) number_aligned
      ∙ ap f (set_at stacked can.sound.registers can.sound.area (number_at m) (number_at m) (omega (arith, can.space)))
      ∙ ap (λ (r : Result State Stop). r >>= λ (k : State). entered k (number_at m) (number_at m - number_at m % 4) mask (entry + 1) back)
      (all_are stacked can.sound.registers can.sound.area (count_ones mask + 5) (number_at m) saved_room (omega (arith, can.top)) below)
      ∙ entered_is

  push_is : pushed m count ≡ Ok (stacked_at (number_at m))
  unfolding pushed
  push_is =
      let low : sub32 (reg m Sp) 4 ≡ number_at m = omega (arith, can.space, can.top) in
      let set : register_set m Sp (number_at m) ≡ Ok (with_reg m Sp (number_at m)) = plain_set m (number_at m) (omega (arith, can.space)) in
      ap (λ (sp : ℕ). register_set m Sp sp >>= λ (n : State). written n sp Long count) low
      ∙ ap (λ (r : Result State Stop). r >>= λ (n : State). written n (number_at m) Long count) set
      ∙ stack_written (with_reg m Sp (number_at m)) (number_at m) count can.sound.area (omega (arith, can.space)) (omega (arith, can.space, can.top))
      (can.free (number_at m) 4 (omega (arith, can.space)))

  pub called_is : called m count place back ≡ Ok (made m count mask back (entry + 1))
  unfolding called
  called_is =
      let f : State → ℕ → Option CodeItem → ℕ → Result State Stop = λ n number item to. framed n number (entry_mask item) to back in
      ap (λ (r : Result State Stop). r >>= λ (n : State). f n (reg n Sp) (slice_get n.items (next_item n.items place)) (next_item n.items place)) push_is
      ∙ ap (λ (x : ℕ). f (stacked_at (number_at m)) x (slice_get m.items (next_item m.items place)) (next_item m.items place)) (sp_at stacked can.sound.registers can.sound.area (number_at m))
      ∙ ap (λ (i : Option CodeItem). f (stacked_at (number_at m)) (number_at m) i (next_item m.items place)) there
      ∙ ap (λ (p : ℕ). f (stacked_at (number_at m)) (number_at m) (Some (item_kind.Mask mask)) p) at_entry
      ∙ framed_is

-- ---- the state that the callee begins in

-- a machine's state with the same memory
pub record SameMemory (m n : State) : Type 0 where
  pub layout : n.layout ≡ m.layout
  pub area : n.area ≡ m.area
  pub stack : n.stack ≡ m.stack
  pub frames : n.frames ≡ m.frames
  pub input : n.input ≡ m.input

module _ (m : State) (can : CanCall m) (mask count : ℕ) (back : Option ℕ) (few : count < 256) (is_mask : IsMask mask) where
  pub sp_in_stack : reg m Sp ≤ 2139095040 + length m.stack
  sp_in_stack = omega (arith, can.top, can.sound.stack)

  pub same_above : SameFrom (reg m Sp) m.stack (stack_with m count)
  same_above = stored_below m.stack (number_at m) count (reg m Sp) (omega (arith, can.space)) (omega (arith, can.space, sp_in_stack)) (omega (arith, can.space))

  number_stands : long_at (stack_with m count) (number_at m) ≡ count
  number_stands = stored_there m.stack (number_at m) count (omega (arith, can.space)) (omega (arith, can.space, sp_in_stack)) (omega (arith, few))

  module _ (g : TreeFn) (own : Extent) (enough : own.locals ≤ own.words) (args : List ℕ) (size : length args ≡ count)
      (stand : (i v : ℕ) → slice_get args i ≡ Some v → long_at m.stack (reg m Sp + 4 * i) ≡ v) where
    callee_holds : (low : ℕ) → low + 4 * own.words ≡ frame_at m mask → Holds (stack_with m count) (frame_made m mask back) own (begun g args) low (reg m Sp + 4 * count)
    callee_holds low is =
        let saved = few_saved mask is_mask in
        record {
          words = omega (arith, is);
          control = omega (arith, can.space, saved);
          saved = omega (arith, can.space, saved);
          top = refl;
          end = omega (arith, size, can.space);
          aligned = omega (arith, can.space, saved, can.aligned);
          locals = enough;
          few = omega (arith, size, few);
          mask = is_mask.low;
          count = number_stands ∙ sym size;
          argument =
              λ i v is. let z : argument_of (number_at m) (i + 1) ≡ reg m Sp + 4 * i = omega (arith, can.space) in ap (λ (x : ℕ). long_at (stack_with m count) x) z
              ∙ same_above (reg m Sp + 4 * i) (omega arith) ∙ stand i v is;
          is_local = λ k v is. absurd (none-some v is);
          local = λ k v is. absurd (none-some v is);
          pushed = λ i v is. absurd (none-some v is);
        }

    pub callee_agrees : (objects : List Object) (es : List Extent) (callers : List Activation) (area input : List ℕ) (place : ℕ) → AreLabelled objects m → m.area ≡ area → m.input ≡ input
        → Hold (stack_with m count) m.frames es callers (reg m Sp + 4 * count)
        → (n : State) → IsSound n → SameMemory (made m count mask back place) n → reg n Fp ≡ frame_at m mask → reg n Ap ≡ number_at m → reg n Sp + 4 * own.words ≡ frame_at m mask
        → 2139095040 ≤ reg n Sp
        → Agrees objects own es (record { running = begun g args; callers = callers; area = area; input = input }) n
    callee_agrees objects es callers area input place labelled is_area is_input outside n sound same fp is_ap sp low = record {
      sound = sound;
      labelled = λ i o is. ap (λ l. label_address l o.label) same.layout ∙ labelled i o is;
      area = same.area ∙ is_area;
      input = same.input ∙ is_input;
      innermost = frame_made m mask back;
      outer = m.frames;
      high = reg m Sp + 4 * count;
      frames = same.frames;
      fp = fp;
      ap = is_ap;
      running = subst (λ (s : List ℕ). Holds s (frame_made m mask back) own (begun g args) (reg n Sp) (reg m Sp + 4 * count)) (sym same.stack) (callee_holds (reg n Sp) sp);
      callers = subst (λ (s : List ℕ). Hold s m.frames es callers (reg m Sp + 4 * count)) (sym same.stack) outside;
      bottom = low;
    }

-- ---- a call from a state that stands for a state of the trees

module _ (objects : List Object) (e : Extent) (es : List Extent) (t : Trees) (m : State) (h : Agrees objects e es t m) (room : HasRoom m) where
  pub can_call : CanCall m
  can_call = record {
    sound = h.sound;
    space = room.space;
    top = omega (arith, fp_high_is objects e es t m h, fp_low objects e es t m h, high_top objects e es t m h);
    aligned = omega (arith, h.running.words, h.running.aligned);
    live = room.frame;
    free = λ a k le. free_below objects e es t m h a k (omega (arith, le, fp_low objects e es t m h));
  }

  pub caller_holds : (new : List ℕ) (count : ℕ) → SameFrom (reg m Sp) m.stack new → count ≤ length t.running.pushed
      → Hold new m.frames (e ∷ es) (record t.running { pushed = drop count t.running.pushed } ∷ t.callers) (reg m Sp + 4 * count)
  caller_holds new count same many =
      let u = fp_high_is objects e es t m h in
      let d = fp_low objects e es t m h in
      caller h.outer m.frames h.innermost e es (record t.running { pushed = drop count t.running.pushed }) t.callers (reg m Sp + 4 * count) h.high h.frames
      (dropped new h.innermost e t.running (reg m Sp) h.high count (holds_kept m.stack h.innermost e t.running (reg m Sp) h.high h.running new same) many)
      (hold_kept m.stack new h.outer es t.callers h.high h.callers (λ a from. same a (omega (arith, u, d, from))))

  pub arguments_stand : (count i v : ℕ) → slice_get (take count t.running.pushed) i ≡ Some v → long_at m.stack (reg m Sp + 4 * i) ≡ v
  arguments_stand count i v is = h.running.pushed i v (front_get t.running.pushed count i v is)
