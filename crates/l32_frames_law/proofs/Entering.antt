-- A call of a function, and the beginning of a run: behind `enter` the state stands for the trees' state in which the function begins.
use Rattle.std.proofs.Common.{◌≡◌, ℕ, ◌+◌, ◌-◌, ◌*◌, ◌^◌, ◌<◌, ◌≤◌, Bool, cond, List, [], ◌∷◌, ◌++◌, length, take, Ok, Err, refl, sym, ap, subst, ◌∙◌, arith}
use Rattle.std.proofs.lemmas.List.{length-take-le}
use Rattle.std.proofs.lemmas.Option.{none-some}
use Rattle.std.proofs.lemmas.Bool.{lt-leb}
use Rattle.gg_base.specs.Arithmetic.{add32, mul32}
use Rattle.vax_core.specs.First.{main_name}
use Rattle.tree_core.specs.declared.program.Object.{Object}
use Rattle.tree_core.specs.declared.program.TreeFn.{TreeFn}
use Rattle.tree_core.specs.Names.{function_label}
use Rattle.l32_core.specs.declared.code.Item32.{Item32}
use Rattle.l32_core.specs.declared.code.Code32.{Code32}
use Rattle.l32_machine.specs.State.{State, stack_full}
use Rattle.l32_machine.specs.Labels.{next_item, label_place}
use Rattle.l32_machine.specs.Calls.{noted, called}
use Rattle.l32_machine.specs.Loading.{no_registers, first_frame, start}
use Rattle.l32_states.specs.tree_meaning.specs.State.{State as Trees, Extent}
use Rattle.l32_states.specs.tree_meaning.specs.Steps.{with_call, without_pushed}
use Rattle.l32_states.specs.vax_target_meaning.specs.vax_machine.proofs.LayoutLaws.{length-zeros}
use Rattle.l32_states.specs.vax_machine_lists.specs.Sound.{AllBelow}
use Rattle.l32_states.specs.vax_machine_lists.proofs.Beginning.{zeros_below}
use Rattle.l32_states.specs.l32_target_meaning.specs.Stack.{Hold, nobody}
use Rattle.l32_states.specs.l32_target_meaning.specs.Agreeing.{IsSound, Agrees}
use Rattle.l32_states.proofs.Standing.{high_top, fp_high_is, popped_kept}
use Rattle.l32_frames_law.specs.Calling.{HasFrame, IsRoomy, HoldsObjects}
use Rattle.l32_frames_law.specs.Laws.{Begins, CallsBegin, Starts, RunsBegin}
use Rattle.l32_frames_law.proofs.Chain.{all_hold, get_front}
use Rattle.l32_frames_law.proofs.Opening.{enters, agrees_first}

-- ---- a call

module _ (objects : List Object) (code : List Item32) (g : TreeFn) (em : HasFrame code (function_label g.name) g.locals) (e : Extent) (es : List Extent) (t : Trees) (m : State)
    (h : Agrees objects e es t m) (roomy : IsRoomy m) (same : m.items ≡ code) (count : ℕ) (few : count < 256) (many : count ≤ length t.running.pushed) where
  abbrev args : List ℕ
  args = take count t.running.pushed

  -- behind the call
  abbrev made : State
  made = record m { frames = m.frames ++ noted m count ∷ []; fp = m.sp; place = label_place m.items (function_label g.name) }

  called_is : called m count (label_place m.items (function_label g.name)) ≡ Ok made
  unfolding called
  called_is = ap (λ (b : Bool). cond b (Err stack_full) (Ok made)) (lt-leb 4096 (length m.frames) roomy.room.frame)

  -- behind `enter`
  abbrev begun_in : State
  begun_in = record made { place = em.entry + 1; sp = m.sp - 4 * em.words }

  size : length args ≡ count
  size = length-take-le count t.running.pushed many

  top : m.sp ≤ 2147483648
  top = omega (arith, h.running.words, fp_high_is objects e es t m h, high_top objects e es t m h)

  at_entry : next_item code (label_place m.items (function_label g.name)) ≡ em.entry
  at_entry = ap (λ (x : List Item32). next_item code (label_place x (function_label g.name))) same ∙ em.entry_is

  -- the pieces of the caller and of those outside it; its arguments are no longer among those that are pushed
  outside : Hold m.stack m.fp m.frames (e ∷ es) ((without_pushed t count).running ∷ t.callers) (m.sp + 4 * count)
  outside = all_hold objects e es (without_pushed t count) (record m { sp = m.sp + 4 * count }) (popped_kept objects e es t m h count many)

  pops : add32 m.sp (mul32 4 count) ≡ m.sp + 4 * length args
  pops =
      let k : mul32 4 count ≡ 4 * count = omega (arith, few) in
      let v : add32 m.sp (4 * count) ≡ m.sp + 4 * length args = omega (arith, top, few, size) in
      ap (add32 m.sp) k ∙ v

  begun_sound : IsSound begun_in
  begun_sound = record {
    going = h.sound.going;
    registers = h.sound.registers;
    longwords = h.sound.longwords;
    stack = h.sound.stack;
    stack_bytes = h.sound.stack_bytes;
    area = h.sound.area;
    area_bytes = h.sound.area_bytes;
    input_bytes = h.sound.input_bytes;
  }

  pub begins : Begins objects code g em (e ∷ es) (with_call (without_pushed t count) g args) m count
  begins = record {
    called_state = made;
    state = begun_in;
    does = called_is;
    goes = enters made code em.words em.entry same at_entry em.enters em.few (omega (arith, roomy.wide, em.few)) top h.sound.going;
    agrees =
        agrees_first objects g em.words em.enough args (omega (arith, size, few)) (e ∷ es) ((without_pushed t count).running ∷ t.callers) t.area t.input
        begun_in (noted m count) m.frames begun_sound h.labelled h.area h.input refl
        (omega (arith, roomy.wide, em.few)) (omega (arith, roomy.wide, em.few)) (omega (arith, h.running.words, h.running.aligned)) pops
        h.sound.registers h.sound.longwords
        (λ i v is. h.running.pushed i v (get_front t.running.pushed count i v is))
        (subst (λ (k : ℕ). Hold m.stack m.fp m.frames (e ∷ es) ((without_pushed t count).running ∷ t.callers) (m.sp + 4 * k)) (sym size) outside);
    frames = refl;
    items = same;
    at = refl;
  }

pub calls_begin : CallsBegin
calls_begin objects code g em e es t m h roomy same count few many = begins objects code g em e es t m h roomy same count few many

-- ---- the beginning of a run

module _ (objects : List Object) (c : Code32) (g : TreeFn) (em : HasFrame c.items main_name g.locals) (area input : List ℕ)
    (holds : HoldsObjects objects c.area area) (bytes : AllBelow 256 input) where
  abbrev first_state : State
  first_state = record (start c input) { place = em.entry + 1; sp = 2147483648 - 4 * em.words }

  all_zero : AllBelow (2 ^ 32) no_registers
  all_zero =
      let z : 0 < 2 ^ 32 = omega arith in
      (z, (z, (z, (z, (z, (z, (z, (z, (z, (z, (z, (z, tt))))))))))))

  first_sound : IsSound first_state
  first_sound = record {
    going = refl;
    registers = refl;
    longwords = all_zero;
    stack = length-zeros 8388608;
    stack_bytes = zeros_below 8388608;
    area = omega (arith, ap length holds.area_is, holds.size);
    area_bytes = subst (λ (l : List ℕ). AllBelow 256 l) (sym holds.area_is) holds.bytes;
    input_bytes = bytes;
  }

  pub begins_first : Starts objects c g em area input
  begins_first = record {
    state = first_state;
    goes = enters (start c input) c.items em.words em.entry refl em.entry_is em.enters em.few (omega (arith, em.few)) (omega arith) refl;
    agrees =
        agrees_first objects g em.words em.enough [] (omega arith) [] [] area input
        first_state first_frame [] first_sound holds.labelled holds.area_is refl refl
        (omega (arith, em.few)) (omega (arith, em.few)) (omega arith) (omega arith)
        refl all_zero
        (λ i v is. absurd (none-some v is))
        (nobody 0);
    frames = refl;
    items = refl;
    at = refl;
  }

pub runs_begin : RunsBegin
runs_begin objects c g em area input holds bytes = begins_first objects c g em area input holds bytes
