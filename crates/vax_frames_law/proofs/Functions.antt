-- A call of a function whose code stands in the code: behind its frame's instructions the state stands for the trees' state in which it begins.
use Rattle.std.proofs.Common.{◌≡◌, ℕ, ◌+◌, ◌-◌, ◌*◌, ◌^◌, ◌<◌, ◌≤◌, List, ◌∷◌, length, take, drop, Option, Some, None, refl, sym, ap, subst, ◌∙◌, arith, get_or-set_same, get_or-set_other, length-set}
use Rattle.std.proofs.lemmas.List.{length-take-le}
use Rattle.std.specs.Prelude.{slice_get, slice_set, slice_index}
use Rattle.std.specs.Int.RustNames.{count_ones}
use Rattle.gg_base.specs.declared.size.Size.TheVariants.{Long}
use Rattle.vax_core.specs.declared.register.Reg.TheVariants.{Ap, Fp, Sp}
use Rattle.vax_core.specs.declared.code.CodeItem.{CodeItem}
use Rattle.vax_core.specs.declared.code.CodeItem.TheVariants as item_kind
use Rattle.vax_machine.specs.declared.turn.Stop.{Stop}
use Rattle.vax_machine.specs.State.{State, reg}
use Rattle.vax_machine.specs.Labels.{next_item, label_place}
use Rattle.tree_core.specs.declared.program.Object.{Object}
use Rattle.tree_core.specs.declared.program.TreeFn.{TreeFn}
use Rattle.tree_core.specs.Names.{function_label}
use Rattle.tree_meaning.specs.State.{Activation, begun, Extent}
use Rattle.tree_meaning.specs.State.{State as Trees}
use Rattle.vax_states.specs.Stack.{long_at, Hold}
use Rattle.vax_states.specs.vax_machine_lists.specs.Sound.{AllBelow, IsSound}
use Rattle.vax_states.specs.Agreeing.{AreLabelled, Agrees}
use Rattle.vax_states.specs.vax_machine_lists.specs.Instructions.{Course, exec, comes}
use Rattle.vax_states.specs.vax_machine_lists.specs.Runs.{HasInstrs, at_of, Carries}
use Rattle.vax_frames_law.specs.Calling.{HasFrame, with_call}
use Rattle.vax_frames.specs.Frames.{room_code}
use Rattle.vax_states.specs.vax_machine_lists.proofs.Longwords.{below_set, length-with, with_below}
use Rattle.vax_states.specs.vax_machine_lists.proofs.Joining.{carries}
use Rattle.vax_frames_law.proofs.Entering.{CanCall, number_at, frame_at, stack_with, frame_made, made, few_saved, called_is, same_above, callee_agrees, can_call, caller_holds, arguments_stand}
use Rattle.vax_frames_law.proofs.FrameCode.{Lowers, room_made}
use Rattle.vax_frames_law.specs.Laws.{IsRoomy, Begins, CallsBegin}

-- a sound machine is sound at each place
pub sound_at : (n : State) (place : ℕ) (code : List CodeItem) (over : Option Stop) → over ≡ None → IsSound n → IsSound (record n { place = place; items = code; over = over })
sound_at n place code over none h = record {
  going = none;
  registers = h.registers;
  longwords = h.longwords;
  stack = h.stack;
  stack_bytes = h.stack_bytes;
  area = h.area;
  area_bytes = h.area_bytes;
  input_bytes = h.input_bytes;
}

module _ (objects : List Object) (code : List CodeItem) (g : TreeFn) (em : HasFrame code (function_label g.name) g.locals) (m : State) (can : CanCall m) (wide : 2139095040 + 2000000 ≤ reg m Sp)
    (same : m.items ≡ code) (count : ℕ) (back : Option ℕ) (few : count < 256) where
  abbrev label : ℕ
  label = label_place m.items (function_label g.name)

  at_entry : next_item m.items label ≡ em.entry
  at_entry = ap (λ (x : List CodeItem). next_item x (label_place x (function_label g.name))) same ∙ em.entry_is

  mask_there : slice_get m.items (next_item m.items label) ≡ Some (item_kind.Mask em.mask)
  mask_there = ap (λ (p : ℕ). slice_get m.items p) at_entry ∙ ap (λ (x : List CodeItem). slice_get x em.entry) same ∙ em.mask_there

  abbrev state : State
  state = made m count em.mask back (em.entry + 1)

  abbrev begins_at : ℕ
  begins_at = frame_at m em.mask

  abbrev counted_at : ℕ
  counted_at = number_at m

  saved : count_ones em.mask ≤ 10
  saved = few_saved em.mask em.is_mask

  small : AllBelow (2 ^ 32) (slice_set m.registers 14 begins_at)
  small = below_set (2 ^ 32) 14 begins_at m.registers (omega (arith, can.top)) can.sound.longwords

  abbrev regs : List ℕ
  regs = slice_set m.registers 14 begins_at

  size : length regs ≡ 15
  size = length-set m.registers 14 begins_at ∙ can.sound.registers

  made_sound : IsSound state
  made_sound =
      let fits : begins_at < 2 ^ 32 = omega (arith, can.top) in
      let inside : counted_at - 2139095040 + 4 ≤ length m.stack = omega (arith, wide, can.top, can.sound.stack) in
      record {
        going = can.sound.going;
        registers = length-set (slice_set regs 13 begins_at) 12 counted_at ∙ length-set regs 13 begins_at ∙ size;
        longwords = below_set (2 ^ 32) 12 counted_at (slice_set regs 13 begins_at) (omega (arith, can.top)) (below_set (2 ^ 32) 13 begins_at regs fits small);
        stack = length-with m.stack (counted_at - 2139095040) count inside ∙ can.sound.stack;
        stack_bytes = with_below Long m.stack (counted_at - 2139095040) count can.sound.stack_bytes;
        area = can.sound.area;
        area_bytes = can.sound.area_bytes;
        input_bytes = can.sound.input_bytes;
      }

  sp_is : reg state Sp ≡ begins_at
  sp_is =
      get_or-set_other (slice_set regs 13 begins_at) 12 14 counted_at 0 (λ q. omega (arith, q))
      ∙ get_or-set_other regs 13 14 begins_at 0 (λ q. omega (arith, q))
      ∙ get_or-set_same m.registers 14 begins_at 0 (omega (arith, can.sound.registers))

  fp_is : reg state Fp ≡ begins_at
  fp_is = get_or-set_other (slice_set regs 13 begins_at) 12 13 counted_at 0 (λ q. omega (arith, q)) ∙ get_or-set_same regs 13 begins_at 0 (omega (arith, size))

  ap_is : reg state Ap ≡ counted_at
  ap_is = get_or-set_same (slice_set regs 13 begins_at) 12 counted_at 0 (omega (arith, length-set regs 13 begins_at, size))

  low : 2139095040 + 4096 ≤ begins_at
  low = omega (arith, wide, saved)

  lowers : (n : State) × (exec (room_code em.words) state ≡ comes n) × Lowers state n em.words
  lowers = room_made state made_sound (omega (arith, sp_is, low)) (omega (arith, sp_is, can.top)) em.words (omega (arith, sp_is, low, em.few))

  abbrev after : State
  after = at_of state lowers.0 (em.entry + 1 + length (room_code em.words))

  kept_register : (r : ℕ) → r < 14 → slice_index regs r ≡ slice_index m.registers r
  kept_register r lt = get_or-set_other m.registers 14 r begins_at 0 (λ q. omega (arith, q, lt))

  pub begins_with : (args : List ℕ) (es : List Extent) (callers : List Activation) (area input : List ℕ) → length args ≡ count
      → ((i v : ℕ) → slice_get args i ≡ Some v → long_at m.stack (reg m Sp + 4 * i) ≡ v) → AreLabelled objects m → m.area ≡ area → m.input ≡ input
      → Hold (stack_with m count) m.frames es callers (reg m Sp + 4 * count)
      → Begins objects code g em es (record { running = begun g args; callers = callers; area = area; input = input }) m count back
  begins_with args es callers area input many stand labelled is_area is_input outside =
      let l = lowers.2 in
      let memory = l.memory in
      record {
        called_state = state;
        state = after;
        steps = length (room_code em.words);
        frame = frame_made m em.mask back;
        does = called_is m can count label em.entry em.mask back em.is_mask mask_there at_entry;
        leads = subst (λ (c : Course). Carries state (length (room_code em.words)) c) lowers.1
            (carries (room_code em.words) state (subst (λ (x : List CodeItem). HasInstrs x (em.entry + 1) (room_code em.words)) (sym same) em.room) can.sound.going);
        agrees =
            callee_agrees m can em.mask count back few em.is_mask g (record { locals = g.locals; words = em.words }) em.enough args many stand objects es callers area input
            (em.entry + 1) labelled is_area is_input outside after
            (sound_at lowers.0 (em.entry + 1 + length (room_code em.words)) m.items m.over can.sound.going l.sound)
            (record { layout = memory.layout; area = memory.area; stack = memory.stack; frames = memory.frames; input = memory.input })
            (l.fp ∙ fp_is) (l.ap ∙ ap_is) (l.sp ∙ sp_is) (omega (arith, l.sp, sp_is, low, em.few));
        frames = memory.frames;
        is_made = record { mask_is = refl; back_is = refl; kept = kept_register };
        small = small;
        items = same;
        at = refl;
      }

-- a call by a function of the program
module _ (objects : List Object) (code : List CodeItem) (g : TreeFn) (em : HasFrame code (function_label g.name) g.locals) (e : Extent) (es : List Extent) (t : Trees) (m : State)
    (h : Agrees objects e es t m) (roomy : IsRoomy m) (same : m.items ≡ code) (count : ℕ) (back : Option ℕ) (few : count < 256) (many : count ≤ length t.running.pushed) where
  pub begins : Begins objects code g em (e ∷ es) (with_call t g count) m count back
  begins =
      let can = can_call objects e es t m h roomy.room in
      begins_with objects code g em m can roomy.wide same count back few
      (take count t.running.pushed) (e ∷ es) (record t.running { pushed = drop count t.running.pushed } ∷ t.callers) t.area t.input (length-take-le count t.running.pushed many)
      (arguments_stand objects e es t m h roomy.room count) h.labelled h.area h.input
      (caller_holds objects e es t m h roomy.room (stack_with m count) count (same_above m can em.mask count back few em.is_mask) many)

pub calls_begin : CallsBegin
calls_begin objects code g em e es t m h roomy same count back few many = begins objects code g em e es t m h roomy same count back few many
