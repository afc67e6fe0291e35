-- Calls begin at home.
use Rattle.std.proofs.Common.{◌≡◌, inl, inr, ⊎_elim, ℕ, ◌+◌, ◌-◌, ◌*◌, ◌^◌, ◌<◌, ◌≤◌, true, List, [], ◌∷◌, ◌++◌, length, take, drop, Option, Some, refl}
use Rattle.std.proofs.Common.{sym, ap, subst, ◌∙◌, arith, get_or-set_same, get_or-set_other, length-set}
use Rattle.std.proofs.lemmas.Bool.{cases_lt, false≢true}
use Rattle.std.proofs.lemmas.List.{length-take-le}
use Rattle.std.proofs.lemmas.Option.{none-some}
use Rattle.std.specs.Prelude.{◌||◌, slice_get, slice_set, slice_index}
use Rattle.std.specs.Int.RustNames.{count_ones}
use Rattle.gg_base.specs.declared.size.Size.TheVariants.{Long}
use Rattle.gg_base.specs.LittleEndian.{number_in, with_number}
use Rattle.vax_states.specs.tree_core.specs.declared.program.Object.{Object}
use Rattle.vax_states.specs.tree_core.specs.declared.program.TreeFn.{TreeFn}
use Rattle.vax_states.specs.tree_core.specs.Names.{function_label}
use Rattle.vax_states.specs.tree_meaning.specs.State.{Activation, begun, Extent}
use Rattle.vax_states.specs.tree_meaning.specs.State.{State as Trees}
use Rattle.vax_states.specs.vax_machine_lists.specs.vax_core.specs.declared.register.Reg.TheVariants.{Ap, Fp, Sp}
use Rattle.vax_states.specs.vax_machine_lists.specs.vax_core.specs.Registers.{reg_number}
use Rattle.vax_states.specs.vax_machine_lists.specs.vax_core.specs.declared.code.CodeItem.{CodeItem}
use Rattle.vax_states.specs.vax_machine_lists.specs.vax_core.specs.declared.code.CodeItem.TheVariants as item_kind
use Rattle.vax_states.specs.vax_machine_live.specs.declared.frame.Frame.{Frame}
use Rattle.vax_states.specs.vax_machine_live.specs.Control.{in_control}
use Rattle.vax_states.specs.vax_machine.specs.State.{State, reg}
use Rattle.vax_states.specs.vax_machine.specs.Labels.{next_item, label_place}
use Rattle.vax_states.specs.vax_machine_lists.specs.Sound.{AllBelow, IsSound}
use Rattle.vax_states.specs.vax_machine_lists.specs.Kept.{KeptAt}
use Rattle.vax_states.specs.vax_machine_lists.specs.Instructions.{Course, comes, exec}
use Rattle.vax_states.specs.vax_machine_lists.specs.Runs.{HasInstrs, at_of, Carries}
use Rattle.vax_states.specs.vax_machine_lists.proofs.Longwords.{below_set, length-with, with_below}
use Rattle.vax_states.specs.vax_machine_lists.proofs.Joining.{carries}
use Rattle.vax_states.specs.Stack.{long_at, Hold, nobody}
use Rattle.vax_states.specs.Agreeing.{AreLabelled, Agrees}
use Rattle.vax_frames_law.specs.vax_frames.specs.Frames.{room_code}
use Rattle.vax_frames_law.specs.Calling.{HasFrame, IsMadeIn, with_call}
use Rattle.vax_frames_law.specs.Laws.{IsRoomy}
use Rattle.vax_frames_law.proofs.Entering.{CanCall, number_at, frame_at, stack_with, frame_made, made, few_saved, called_is, same_above, callee_agrees}
use Rattle.vax_frames_law.proofs.Entering.{can_call, caller_holds, arguments_stand}
use Rattle.vax_frames_law.proofs.FrameCode.{Lowers, room_made}
use Rattle.vax_homes_law.specs.vax_homes.specs.declared.choose.Home.{Home}
use Rattle.vax_homes_law.specs.Alike.{Has, word_place}
use Rattle.vax_homes_law.specs.Laying.{is_home_byte}
use Rattle.vax_homes_law.specs.Calling.{with_stack, SameStacks}
use Rattle.vax_homes_law.proofs.Bytes.{with_outside, with_inside}
use Rattle.vax_homes_states.specs.Beginning.{IsAtHome}
use Rattle.vax_homes_states.proofs.Beginning.{registers_make_homes}
use Rattle.vax_homes_frames.specs.Live.{HomedCall, frames_of, is_waiting_byte, IsWaiting, AreWaiting, AllAtHome}
use Rattle.vax_homes_frames.specs.Passing.{AreHomesOf, BeginsAtHome, CallsBeginAtHome, RunsBeginAtHome}
use Rattle.vax_homes_frames.proofs.Names.{room_keeps}
use Rattle.vax_homes_frames.proofs.Lying.{or_true, fp_same, own_lies}

-- the same longword put into both stacks
put_same : (hidden : ℕ → Type 0) (old new : List ℕ) (at v : ℕ) → at + 4 ≤ 8388608 → SameStacks hidden old new → SameStacks hidden (with_number Long old at v) (with_number Long new at v)
put_same hidden old new at v le s =
    let p : at + 4 ≤ length old = omega (arith, le, s.old_size) in
    let q : at + 4 ≤ length new = omega (arith, le, s.new_size) in
    record {
      old_size = length-with old at v p ∙ s.old_size;
      new_size = length-with new at v q ∙ s.new_size;
      same = λ i shown. ⊎_elim
          (λ lt. with_outside Long new at v i q (inl lt) ∙ s.same i shown ∙ sym (with_outside Long old at v i p (inl lt)))
          (λ ge. ⊎_elim (λ lt. with_inside Long new old at v i q p ge lt)
          (λ le. with_outside Long new at v i q (inr le) ∙ s.same i shown ∙ sym (with_outside Long old at v i p (inr le))) (cases_lt i (at + 4)))
          (cases_lt i at);
    }

module _ (objects : List Object) (code : List CodeItem) (g : TreeFn) (em : HasFrame code (function_label g.name) g.locals) (hs : List Home) (homes_fit : AreHomesOf g.locals hs) (m : State)
    (st : List ℕ) (can : CanCall m) (wide : 2139095040 + 2000000 ≤ reg m Sp) (same_items : m.items ≡ code) (count : ℕ) (back : Option ℕ) (few : count < 256)
    (whole : length st ≡ 8388608) (bytes : AllBelow 256 st) where
  -- the machine itself
  abbrev here : State
  here = with_stack m st

  here_sound : IsSound here
  here_sound = record {
    going = can.sound.going;
    registers = can.sound.registers;
    longwords = can.sound.longwords;
    stack = whole;
    stack_bytes = bytes;
    area = can.sound.area;
    area_bytes = can.sound.area_bytes;
    input_bytes = can.sound.input_bytes;
  }

  can_here : CanCall here
  can_here = record { sound = here_sound; space = can.space; top = can.top; aligned = can.aligned; live = can.live; free = can.free }

  abbrev label : ℕ
  label = label_place m.items (function_label g.name)

  at_entry : next_item m.items label ≡ em.entry
  at_entry = ap (λ (x : List CodeItem). next_item x (label_place x (function_label g.name))) same_items ∙ em.entry_is

  mask_there : slice_get m.items (next_item m.items label) ≡ Some (item_kind.Mask em.mask)
  mask_there = ap (λ (p : ℕ). slice_get m.items p) at_entry ∙ ap (λ (x : List CodeItem). slice_get x em.entry) same_items ∙ em.mask_there

  -- the machine behind the call
  abbrev entered : State
  entered = made here count em.mask back (em.entry + 1)

  abbrev fp_at : ℕ
  fp_at = frame_at m em.mask

  abbrev ap_at : ℕ
  ap_at = number_at m

  saved : count_ones em.mask ≤ 10
  saved = few_saved em.mask em.is_mask

  low : 2139095040 + 4096 ≤ fp_at
  low = omega (arith, wide, saved)

  abbrev with_sp : List ℕ
  with_sp = slice_set m.registers 14 fp_at

  size : length with_sp ≡ 15
  size = length-set m.registers 14 fp_at ∙ can.sound.registers

  small : AllBelow (2 ^ 32) with_sp
  small = below_set (2 ^ 32) 14 fp_at m.registers (omega (arith, can.top)) can.sound.longwords

  number_inside : ap_at - 2139095040 + 4 ≤ 8388608
  number_inside = omega (arith, wide, can.top)

  entered_sound : IsSound entered
  entered_sound = record {
    going = can.sound.going;
    registers = length-set (slice_set with_sp 13 fp_at) 12 ap_at ∙ length-set with_sp 13 fp_at ∙ size;
    longwords = below_set (2 ^ 32) 12 ap_at (slice_set with_sp 13 fp_at) (omega (arith, can.top)) (below_set (2 ^ 32) 13 fp_at with_sp (omega (arith, can.top)) small);
    stack = length-with st (ap_at - 2139095040) count (omega (arith, number_inside, whole)) ∙ whole;
    stack_bytes = with_below Long st (ap_at - 2139095040) count bytes;
    area = can.sound.area;
    area_bytes = can.sound.area_bytes;
    input_bytes = can.sound.input_bytes;
  }

  sp_is : reg entered Sp ≡ fp_at
  sp_is =
      get_or-set_other (slice_set with_sp 13 fp_at) 12 14 ap_at 0 (λ q. omega (arith, q)) ∙ get_or-set_other with_sp 13 14 fp_at 0 (λ q. omega (arith, q))
      ∙ get_or-set_same m.registers 14 fp_at 0 (omega (arith, can.sound.registers))

  fp_is : reg entered Fp ≡ fp_at
  fp_is = get_or-set_other (slice_set with_sp 13 fp_at) 12 13 ap_at 0 (λ q. omega (arith, q)) ∙ get_or-set_same with_sp 13 fp_at 0 (omega (arith, size))

  ap_is : reg entered Ap ≡ ap_at
  ap_is = get_or-set_same (slice_set with_sp 13 fp_at) 12 ap_at 0 (omega (arith, length-set with_sp 13 fp_at, size))

  -- ---- the room for the frame's words

  lowers : (n : State) × (exec (room_code em.words) entered ≡ comes n) × Lowers entered n em.words
  lowers = room_made entered entered_sound (omega (arith, sp_is, low)) (omega (arith, sp_is, can.top)) em.words (omega (arith, sp_is, low, em.few))

  abbrev begins_at : ℕ
  begins_at = em.entry + 1 + length (room_code em.words)

  abbrev after : State
  after = at_of entered lowers.0 begins_at

  abbrev frame : Frame
  frame = frame_made m em.mask back

  saved_as : (r : ℕ) → r < 14 → slice_index frame.saved r ≡ slice_index m.registers r
  saved_as r lt = get_or-set_other m.registers 14 r fp_at 0 (λ q. omega (arith, q, lt))

  is_made : IsMadeIn m em.mask back frame
  is_made = record { mask_is = refl; back_is = refl; kept = saved_as }

  -- r1 to r11 are as they were
  registers_stay : (r : ℕ) → 1 ≤ r → r < 12 → slice_index after.registers r ≡ slice_index frame.saved r
  registers_stay r from to =
      (subst (λ (d : Course). KeptAt r entered d.ending) lowers.1 (room_keeps em.words r entered from to)).register
      ∙ get_or-set_other (slice_set with_sp 13 fp_at) 12 r ap_at 0 (λ q. omega (arith, q, to)) ∙ get_or-set_other with_sp 13 r fp_at 0 (λ q. omega (arith, q, to))

  -- ---- the state that stands for the trees' state

  abbrev plain : State
  plain = record after { stack = stack_with m count }

  plain_sound : IsSound plain
  plain_sound =
      let s = lowers.2.sound in
      record {
        going = can.sound.going;
        registers = s.registers;
        longwords = s.longwords;
        stack = length-with m.stack (ap_at - 2139095040) count (omega (arith, number_inside, can.sound.stack)) ∙ can.sound.stack;
        stack_bytes = with_below Long m.stack (ap_at - 2139095040) count can.sound.stack_bytes;
        area = s.area;
        area_bytes = s.area_bytes;
        input_bytes = s.input_bytes;
      }

  module _ (args : List ℕ) (es : List Extent) (callers : List Activation) (area input : List ℕ) (cs : List HomedCall) (many : length args ≡ count)
      (stand : (i v : ℕ) → slice_get args i ≡ Some v → long_at m.stack (reg m Sp + 4 * i) ≡ v) (labelled : AreLabelled objects m) (is_area : m.area ≡ area) (is_input : m.input ≡ input)
      (outside : Hold (stack_with m count) m.frames es callers (reg m Sp + 4 * count)) (stacks : SameStacks (λ i. is_waiting_byte cs i ≡ true) m.stack st)
      (above : (i : ℕ) → is_waiting_byte cs i ≡ true → reg m Sp + 4 * count ≤ 2139095040 + i) (frames : m.frames ≡ frames_of cs) (waiting : AreWaiting frame cs es callers) where
    abbrev trees : Trees
    trees = record { running = begun g args; callers = callers; area = area; input = input }

    abbrev own : Extent
    own = record { locals = g.locals; words = em.words }

    agrees : Agrees objects own es trees plain
    agrees =
        let l = lowers.2 in
        let memory = l.memory in
        callee_agrees m can em.mask count back few em.is_mask g own em.enough args many stand objects es callers area input (em.entry + 1) labelled is_area is_input outside plain plain_sound
        (record { layout = memory.layout; area = memory.area; stack = refl; frames = memory.frames; input = memory.input })
        (l.fp ∙ fp_is) (l.ap ∙ ap_is) (omega (arith, l.sp, sp_is)) (omega (arith, l.sp, sp_is, low, em.few))

    after_stack : after.stack ≡ stack_with here count
    after_stack = lowers.2.memory.stack

    homes : IsAtHome objects own es hs (is_waiting_byte cs) trees plain after.stack
    homes =
        registers_make_homes objects own es hs (is_waiting_byte cs) trees plain after.stack agrees (λ h v has is. absurd (none-some v is)) homes_fit.paired homes_fit.fits
        (subst (λ (x : List ℕ). SameStacks (λ i. is_waiting_byte cs i ≡ true) (stack_with m count) x) (sym after_stack)
        (put_same (λ i. is_waiting_byte cs i ≡ true) m.stack st (ap_at - 2139095040) count number_inside stacks))
        (λ i o. let le = above i o in omega (arith, le, lowers.2.ap, ap_is, many, wide))

    pub begins_home : BeginsAtHome objects code g em es hs cs trees m st count back
    begins_home = record {
      called_state = entered;
      state = record plain { stack = homes.stack };
      stack = after.stack;
      steps = length (room_code em.words);
      frame = frame;
      does = called_is here can_here count label em.entry em.mask back em.is_mask mask_there at_entry;
      leads = subst (λ (d : Course). Carries entered (length (room_code em.words)) d) lowers.1
          (carries (room_code em.words) entered (subst (λ (x : List CodeItem). HasInstrs x (em.entry + 1) (room_code em.words)) (sym same_items) em.room) can.sound.going);
      room = record { going = can.sound.going; items = same_items; place_is = refl; made = lowers.0; does = lowers.1; behind_is = refl };
      at_home = record {
        home = homes.at_home;
        frames = lowers.2.memory.frames ∙ ap (λ (x : List Frame). x ++ frame ∷ []) frames;
        intact = λ r from to out. registers_stay r (omega (arith, from)) to;
        waiting = waiting;
        bytes = subst (λ (x : List ℕ). AllBelow 256 x) (sym after_stack) (with_below Long st (ap_at - 2139095040) count bytes);
      };
      frames = lowers.2.memory.frames;
      is_made = is_made;
      small = small;
      items = same_items;
      at = refl;
    }

-- ---- a call by a function of the program

module _ (objects : List Object) (code : List CodeItem) (g : TreeFn) (em : HasFrame code (function_label g.name) g.locals) (hs : List Home) (e : Extent) (es : List Extent) (c : HomedCall)
    (cs : List HomedCall) (t : Trees) (m : State) (st : List ℕ) (h : AllAtHome objects e es c cs t m st) (roomy : IsRoomy m) (same_items : m.items ≡ code) (homes_fit : AreHomesOf g.locals hs)
    (count : ℕ) (back : Option ℕ) (few : count < 256) (many : count ≤ length t.running.pushed) where
  abbrev a : Agrees objects e es t m
  a = h.home.agrees

  can_now : CanCall m
  can_now = can_call objects e es t m a roomy.room

  fp_now : reg m Fp ≡ c.frame.fp
  fp_now = fp_same objects e es c cs t m st h

  hidden_now : (i : ℕ) → (is_home_byte c.homes (reg m Fp) i || is_waiting_byte cs i) ≡ true → is_waiting_byte (c ∷ cs) i ≡ true
  hidden_now i is = subst (λ (x : ℕ). (is_home_byte c.homes x i || is_waiting_byte cs i) ≡ true) fp_now is

  shown_now : (i : ℕ) → is_waiting_byte (c ∷ cs) i ≡ true → (is_home_byte c.homes (reg m Fp) i || is_waiting_byte cs i) ≡ true
  shown_now i is = subst (λ (x : ℕ). (is_home_byte c.homes x i || is_waiting_byte cs i) ≡ true) (sym fp_now) is

  stacks_now : SameStacks (λ i. is_waiting_byte (c ∷ cs) i ≡ true) m.stack st
  stacks_now = record { old_size = a.sound.stack; new_size = h.home.alike.whole; same = λ i shown. h.home.alike.same i (λ is. shown (hidden_now i is)) }

  above_now : (i : ℕ) → is_waiting_byte (c ∷ cs) i ≡ true → reg m Sp + 4 * count ≤ 2139095040 + i
  above_now i is =
      let r = a.running in
      ⊎_elim (λ own. own_lies objects e es c cs t m st h (reg m Sp + 4 * count) i (omega (arith, r.words, a.fp, many)) own)
      (λ more. let le = h.home.above i more in omega (arith, le, r.words, r.control, r.top, a.ap, many))
      (or_true (is_home_byte c.homes (reg m Fp) i) (is_waiting_byte cs i) (shown_now i is))

  abbrev frame_now : Frame
  frame_now = frame_made m em.mask back

  saved_now : (r : ℕ) → r < 14 → slice_index frame_now.saved r ≡ slice_index m.registers r
  saved_now r lt = get_or-set_other m.registers 14 r (frame_at m em.mask) 0 (λ q. omega (arith, q, lt))

  held_now : (k : Home) (v : ℕ) → Has c.homes k → t.running.locals k.local ≡ Some v → slice_index frame_now.saved (reg_number k.register) ≡ v
  held_now k v has is =
      let lt = h.home.paired.high k has in
      saved_now (reg_number k.register) (omega (arith, lt)) ∙ sym (h.home.alike.homes k has) ∙ ap (λ (x : ℕ). number_in Long m.stack (word_place x k.local)) a.fp ∙ a.running.local k.local v is

  waits_now : IsWaiting frame_now c e (record t.running { pushed = drop count t.running.pushed })
  waits_now = record {
    paired = h.home.paired;
    fits = h.home.fits;
    saved = held_now;
    intact = λ r from to out. saved_now r (omega (arith, to)) ∙ h.intact r from to out;
  }

  pub calls_begin : BeginsAtHome objects code g em (e ∷ es) hs (c ∷ cs) (with_call t g count) m st count back
  calls_begin =
      begins_home objects code g em hs homes_fit m st can_now roomy.wide same_items count back few h.home.alike.whole h.bytes
      (take count t.running.pushed) (e ∷ es) (record t.running { pushed = drop count t.running.pushed } ∷ t.callers) t.area t.input (c ∷ cs) (length-take-le count t.running.pushed many)
      (arguments_stand objects e es t m a roomy.room count) a.labelled a.area a.input
      (caller_holds objects e es t m a roomy.room (stack_with m count) count (same_above m can_now em.mask count back few em.is_mask) many)
      stacks_now above_now h.frames (waits_now, h.waiting)

pub calls_begin_at_home : CallsBeginAtHome
calls_begin_at_home objects code g em hs e es c cs t m st h roomy same_items homes_fit count back few many =
    calls_begin objects code g em hs e es c cs t m st h roomy same_items homes_fit count back few many

-- ---- the first call of a run

module _ (objects : List Object) (code : List CodeItem) (g : TreeFn) (em : HasFrame code (function_label g.name) g.locals) (hs : List Home) (m : State) (area input : List ℕ) (back : Option ℕ)
    (sound : IsSound m) (none : m.frames ≡ []) (top : reg m Sp ≡ 2147483648) (same_items : m.items ≡ code) (labelled : AreLabelled objects m) (is_area : m.area ≡ area) (is_input : m.input ≡ input)
    (homes_fit : AreHomesOf g.locals hs) where
  can_first : CanCall m
  can_first = record {
    sound = sound;
    space = omega (arith, top);
    top = omega (arith, top);
    aligned = omega (arith, top);
    live = omega (arith, ap length none);
    free = λ x k le. ap (λ (fs : List Frame). in_control fs x k) none;
  }

  nobody_there : Hold (stack_with m 0) m.frames [] [] (reg m Sp + 4 * 0)
  nobody_there =
      let end : reg m Sp + 4 * 0 ≡ 2147483648 = omega (arith, top) in
      subst (λ (x : ℕ). Hold (stack_with m 0) m.frames [] [] x) (sym end) (subst (λ (fs : List Frame). Hold (stack_with m 0) fs [] [] 2147483648) (sym none) nobody)

  first_begins : BeginsAtHome objects code g em [] hs [] (record { running = begun g []; callers = []; area = area; input = input }) m m.stack 0 back
  first_begins =
      begins_home objects code g em hs homes_fit m m.stack can_first (omega (arith, top)) same_items 0 back (omega arith) sound.stack sound.stack_bytes [] [] [] area input [] refl
      (λ i v is. absurd (none-some v is)) labelled is_area is_input nobody_there (record { old_size = sound.stack; new_size = sound.stack; same = λ i shown. refl })
      (λ i is. absurd (false≢true is)) none tt

pub runs_begin_at_home : RunsBeginAtHome
runs_begin_at_home objects code g em hs m area input back sound none top same_items labelled is_area is_input homes_fit =
    first_begins objects code g em hs m area input back sound none top same_items labelled is_area is_input homes_fit
