-- The lines of a statement that calls do its deed.
use Rattle.std.proofs.Common.{◌≡◌, ℕ, zero, suc, ◌+◌, ◌-◌, ◌%◌, ◌^◌, ◌≤◌, ◌==◌, Bool, true, false, cond, List, [], ◌∷◌, length, take, Option, Some, None, refl, sym, ap, subst, ◌∙◌}
use Rattle.std.proofs.Common.{arith, get_or-set_same}
use Rattle.std.specs.Prelude.{slice_get, nat_lt, codes}
use Rattle.std.specs.Str.{bytes_eq}
use Rattle.std.proofs.lemmas.Bool.{eqb-true, false_from_ne_true, true≢false}
use Rattle.std.proofs.lemmas.List.{length-take-le}
use Rattle.std.proofs.lemmas.Slice.Eq.{bytes_eq-Decides}
use Rattle.std.proofs.lemmas.Option.{same_Some}
use Rattle.std.specs.Option.{option_or}
use Rattle.gg_base.proofs.Facts.{tail_same}
use Rattle.tree_core.specs.declared.tree.Att.TheVariants as att
use Rattle.tree_core.specs.declared.program.TreeFn.{TreeFn}
use Rattle.tree_core.specs.declared.program.TreeProgram.{TreeProgram}
use Rattle.tree_core.specs.Valid.{named, service_args, args_or, takes}
use Rattle.tree_core.specs.Names.{function_label}
use Rattle.tree_meaning.specs.State.{State as Trees, Extent}
use Rattle.gg_base.specs.declared.run.Finish.TheVariants as finish
use Rattle.tree_meaning.specs.Deeds.{Deed, Calls as Enters}
use Rattle.tree_meaning.specs.Steps as steps
use Rattle.tree_meaning.specs.Steps.{Step, without_pushed, called_as, wrote, got as answered, strays, deed_step}
use Rattle.vax_target_statements.specs.md_reader.specs.declared.types.Class.{Class}
use Rattle.vax_target_statements.specs.md_reader.specs.declared.types.Rule.{Rule}
use Rattle.vax_target_statements.specs.sel_terms.specs.Effects.{EffectShape, Call}
use Rattle.vax_target_statements.specs.sel_target.specs.declared.attr.Attr.{Attr}
use Rattle.vax_target_statements.specs.sel_target.specs.Values.{View}
use Rattle.vax_target_statements.specs.sel_target.specs.Instances.{Ready}
use Rattle.vax_target_statements.specs.sel_target.specs.StatementLaws.{att_of, DoesAct}
use Rattle.vax_core.specs.declared.register.Reg.TheVariants.{R0, Sp}
use Rattle.vax_core.specs.declared.operand.Operand.{Operand}
use Rattle.vax_core.specs.First.{putchar_name}
use Rattle.vax_machine.specs.State.{State, reg, with_reg, with_conditions, cleared}
use Rattle.vax_machine.specs.Labels.{getchar_name}
use Rattle.vax_machine.specs.Calls.{got}
use Rattle.vax_target_statements.specs.vax_machine_lists.specs.Sound.{AllBelow}
use Rattle.vax_target_statements.specs.vax_machine_lists.specs.Instructions.{Course, ends, comes}
use Rattle.vax_target_statements.specs.vax_confined.specs.Confined.{performed}
use Rattle.vax_target_statements.specs.vax_machine_lists.specs.Instructions as lists
use Rattle.vax_target_statements.specs.vax_states.specs.Agreeing.{HasRoom}
use Rattle.vax_target_statements.specs.vax_states.proofs.Standing.{register_kept}
use Rattle.vax_target_statements.specs.vax_states.proofs.Popping.{put_acts, set_up, agrees_result, sp_high, agrees_popped, top_read}
use Rattle.vax_target_statements.specs.vax_templates.specs.FilledLines.{callee_in, callee_of_att, callee_among, function_name, call_of}
use Rattle.vax_target_statements.specs.vax_target_meaning.specs.Running.{course_of}
use Rattle.vax_target_statements.specs.vax_target_meaning.specs.Vax.{vax, stands}
use Rattle.vax_target_statements.specs.vax_target_lines.specs.Lines.{DoesDeed}
use Rattle.vax_target_statements.specs.vax_target_runs.specs.Runs.{EndsIn}
use Rattle.vax_target_statements.proofs.LastLines.{c, did, IsDeed, statement_ends, agrees_there, room_there, live_there, codes_agree}
use Rattle.vax_target_statements.proofs.Deeds.{Steps}
use Rattle.vax_target_statements.proofs.Controls.{token_is}
use Rattle.vax_target_calls.specs.Laws.{CallsDo}
use Rattle.vax_target_calls.proofs.Services.{call_instr, call_is, putchar_is, getchar_is, input_agrees}

-- ---- the callee

-- it is the first hole's
callee_first : (hs : List (Attr Operand)) (function count : ℕ) → att_of (slice_get hs 0) ≡ Some (att.Callee function count) → callee_among hs ≡ Some (function, count)
callee_first [] function count e = cc
callee_first (h ∷ hs) function count e =
    let t = token_is h (att.Callee function count) e in
    ap (λ x. option_or (callee_in x) (callee_among hs)) t.1 ∙ ap (λ x. option_or (callee_of_att x) (callee_among hs)) t.2

-- ---- names

none_named : (name : List ℕ) (fs : List TreeFn) (k : ℕ) (g : TreeFn) → named name fs ≡ 0 → slice_get fs k ≡ Some g → bytes_eq g.name name ≡ true → ⊥
none_named name [] k g none there is = cc
none_named name (x ∷ fs) zero g none there is =
    let one = ap (λ (b : Bool). cond b 1 0 + named name fs) (ap (λ (y : TreeFn). bytes_eq y.name name) (same_Some x g there) ∙ is) in omega (arith, one, none)
none_named name (x ∷ fs) (suc k) g none there is = none_named name fs k g (omega (arith, none)) there is

apart : (name : List ℕ) (fs : List TreeFn) (k : ℕ) (g : TreeFn) → named name fs ≡ 0 → slice_get fs k ≡ Some g → bytes_eq (function_label g.name) (function_label name) ≡ false
apart name fs k g none there =
    false_from_ne_true (bytes_eq (function_label g.name) (function_label name))
    (λ e. none_named name fs k g none there ((bytes_eq-Decides g.name name).1 (tail_same 95 95 g.name name ((bytes_eq-Decides (function_label g.name) (function_label name)).0 e))))

module _ (q : TreeProgram) (f : Extent) (fs : List Extent) (classes : List Class) (rule : Rule) (e : EffectShape) (hs : List (Attr Operand)) (res : Attr Operand) (v : View) (m : State)
    (ready : Ready vax q f fs classes rule e hs res v m) (act : e.act ≡ Call) where
  abbrev D : Course
  D = did q f fs classes rule e hs res v m ready

  abbrev X : EndsIn (c q f fs classes rule e hs res v m ready) m e.act D
  X = statement_ends q f fs classes rule e hs res v m ready (subst IsDeed (sym act) tt)

  abbrev n : State
  n = X.state

  abbrev t : Trees
  t = v.state

  abbrev G : Step → Type 0
  G s = Steps q f fs classes rule e hs res v m ready D s

  agrees : stands q f fs t n
  agrees = agrees_there q f fs classes rule e hs res v m ready e.act X

  room : HasRoom n
  room = room_there q f fs classes rule e hs res v m ready e.act X

  frames : n.frames ≡ m.frames
  frames = live_there q f fs classes rule e hs res v m ready e.act X

  called : D ≡ performed (call_of q (callee_among hs)) n
  called = subst (λ b. DoesDeed (c q f fs classes rule e hs res v m ready) X.state b D) act X.does

  -- a function of the program
  entered_by : (b : Bool) (g : TreeFn) (arguments : List ℕ) (s : Trees) → G (steps.Enters g arguments s) → G (cond b (steps.Enters g arguments s) (steps.Ends finish.Deep))
  entered_by true g arguments s h = h
  entered_by false g arguments s h = tt

  function_goes : (function count : ℕ) (g : TreeFn) → slice_get q.functions function ≡ Some g → D ≡ performed (call_instr count (function_label g.name)) n → length t.running.pushed ≡ count →
      G (called_as (without_pushed t count) (Some g) (function - length q.functions) (take count t.running.pushed))
  function_goes function count g there is many =
      let names = ready.instance_of.program.names in
      let size : count ≡ length (take count t.running.pushed) = sym (length-take-le count t.running.pushed (omega (arith, many))) in
      let ran = is ∙ call_is count (function_label g.name) n (apart (codes "putchar") q.functions function g names.no_putchar there)
      (apart (codes "getchar") q.functions function g names.no_getchar there) in
      entered_by (nat_lt (1 + length t.callers) 1024) g (take count t.running.pushed) (without_pushed t count)
      (n, ap course_of (ran ∙ ap (λ (k : ℕ). ends (lists.Calls (function_label g.name) k n [])) size), record { agrees = agrees; live = frames }, room)

  -- a service
  putchar_goes : (p : List ℕ) → t.running.pushed ≡ p → length p ≡ 1 → D ≡ performed (call_instr 1 putchar_name) n → G (wrote (without_pushed t 1) (slice_get (take 1 t.running.pushed) 0))
  putchar_goes [] eq size is = absurd (omega (arith, size))
  putchar_goes (x ∷ rest) eq size is =
      let first : slice_get t.running.pushed 0 ≡ Some x = ap (λ (l : List ℕ). slice_get l 0) eq in
      let taken_first : slice_get (take 1 t.running.pushed) 0 ≡ Some x = ap (λ (l : List ℕ). slice_get (take 1 l) 0) eq in
      let many : 1 ≤ length t.running.pushed = omega (arith, ap length eq) in
      let k = with_reg n Sp (reg n Sp + 4) in
      let b = x % 2 ^ 8 in
      let after = with_conditions (with_reg k R0 b) cleared in
      let popped = without_pushed t 1 in
      let a : stands q f fs popped k = agrees_popped q.objects _ _ t n agrees 1 many in
      let r : stands q f fs popped (with_reg k R0 b) = register_kept q.objects _ _ popped k a R0 b (omega arith) (omega arith) in
      let d : stands q f fs popped after = codes_agree q f fs popped (with_reg k R0 b) cleared r in
      subst (λ (o : Option ℕ). G (wrote popped o)) (sym taken_first) (
        after,
        ap course_of (is ∙ putchar_is n (Some b) after (put_acts n x (top_read q.objects _ _ t n agrees x first) (set_up n agrees.bottom (sp_high q.objects _ _ t n agrees)))),
        record { agrees = agrees_result q.objects _ _ popped after d b; live = frames },
        get_or-set_same k.registers 0 b 0 (omega (arith, a.sound.registers)),
      )

  getchar_goes : (input : List ℕ) → AllBelow 256 input → D ≡ comes (got n input) → G (answered (without_pushed t 0) input)
  getchar_goes [] small is =
      let b = 2 ^ 32 - 1 in
      let r : stands q f fs (without_pushed t 0) (with_reg n R0 b) = register_kept q.objects _ _ t n agrees R0 b (omega arith) (omega arith) in
      let d = codes_agree q f fs (without_pushed t 0) (with_reg n R0 b) cleared r in
      (_, ap course_of is, record { agrees = agrees_result q.objects _ _ t _ d b; live = frames }, get_or-set_same n.registers 0 b 0 (omega (arith, agrees.sound.registers)))
  getchar_goes (b ∷ rest) small is =
      let a = input_agrees q.objects _ _ t n agrees rest small.1 in
      let k = record n { input = rest } in
      let s = record t { input = rest } in
      let r : stands q f fs s (with_reg k R0 b) = register_kept q.objects _ _ s k a R0 b (omega arith) (omega (arith, small.0)) in
      let d = codes_agree q f fs s (with_reg k R0 b) cleared r in
      (_, ap course_of is, record { agrees = agrees_result q.objects _ _ s _ d b; live = frames }, get_or-set_same n.registers 0 b 0 (omega (arith, agrees.sound.registers)))

  service_goes : (first second : Bool) (count : ℕ) → takes (cond first (Some 1) (cond second (Some 0) None)) count ≡ true → length t.running.pushed ≡ count →
      D ≡ performed (call_instr count (cond first (codes "_putchar") (codes "_getchar"))) n →
      G (cond first (wrote (without_pushed t count) (slice_get (take count t.running.pushed) 0)) (cond second (answered (without_pushed t count) t.input) strays))
  service_goes true second count takes_so many is =
      let one : 1 ≡ count = eqb-true 1 count takes_so in
      subst (λ k. G (wrote (without_pushed t k) (slice_get (take k t.running.pushed) 0))) one
      (putchar_goes t.running.pushed refl (many ∙ sym one) (is ∙ ap (λ k. performed (call_instr k putchar_name) n) (sym one)))
  service_goes false true count takes_so many is =
      let none : 0 ≡ count = eqb-true 0 count takes_so in
      subst (λ k. G (answered (without_pushed t k) t.input)) none
      (subst (λ (i : List ℕ). G (answered (without_pushed t 0) i)) agrees.input
      (getchar_goes n.input agrees.sound.input_bytes (is ∙ ap (λ k. performed (call_instr k getchar_name) n) (sym none) ∙ getchar_is n)))
  service_goes false false count takes_so many is = absurd (true≢false (sym takes_so))

  callee_goes : (o : Option TreeFn) (function count : ℕ) → slice_get q.functions function ≡ o → takes (args_or o (service_args (function - length q.functions))) count ≡ true →
      length t.running.pushed ≡ count → D ≡ performed (call_instr count (function_name o (function - length q.functions))) n →
      G (called_as (without_pushed t count) o (function - length q.functions) (take count t.running.pushed))
  callee_goes (Some g) function count there takes_so many is = function_goes function count g there is many
  callee_goes None function count there takes_so many is = service_goes (function - length q.functions == 0) (function - length q.functions == 1) count takes_so many is

  call_goes : (d : Deed) → DoesAct vax q f rule.restrictions hs v m Call d → G (deed_step q t d)
  call_goes (Enters function count) h =
      callee_goes (slice_get q.functions function) function count refl h.1 h.2 (called ∙ ap (λ o. performed (call_of q o) n) (callee_first hs function count h.0))
  call_goes _ h = absurd h

pub calls_do : CallsDo
calls_do q f fs classes rule e d hs res v m ready act h = call_goes q f fs classes rule e hs res v m ready act d (subst (λ a. DoesAct vax q f rule.restrictions hs v m a d) act h)
