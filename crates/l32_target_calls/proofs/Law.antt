-- The lines of a statement that calls do its deed.
use Rattle.std.proofs.Common.{◌≡◌, ◌⊎◌, inl, inr, ℕ, zero, suc, ◌+◌, ◌-◌, ◌%◌, ◌^◌, ◌≤◌, ◌==◌, Bool, true, false, cond, List, [], ◌∷◌, map, length, take, Option, Some, None, refl, sym, ap, subst, ◌∙◌}
use Rattle.std.proofs.Common.{arith}
use Rattle.std.specs.Prelude.{slice_get, nat_lt, codes}
use Rattle.std.specs.Str.{bytes_eq}
use Rattle.std.specs.Option.{option_or}
use Rattle.std.proofs.lemmas.Bool.{eqb-true, false_from_ne_true, true≢false}
use Rattle.std.proofs.lemmas.List.{length-take-le}
use Rattle.std.proofs.lemmas.Slice.Eq.{bytes_eq-Decides}
use Rattle.std.proofs.lemmas.Option.{same_Some, none-some}
use Rattle.gg_base.specs.declared.run.Finish.TheVariants as finish
use Rattle.gg_base.proofs.Facts.{tail_same}
use Rattle.l32_target_statements.specs.l32_target_rules.specs.vax_target_meaning.specs.tree_core.specs.declared.tree.Att.{Att}
use Rattle.l32_target_statements.specs.l32_target_rules.specs.vax_target_meaning.specs.tree_core.specs.declared.tree.Att.TheVariants as att
use Rattle.l32_target_statements.specs.l32_target_rules.specs.vax_target_meaning.specs.tree_core.specs.declared.tree.Leaf.{Leaf}
use Rattle.l32_target_statements.specs.l32_target_rules.specs.vax_target_meaning.specs.tree_core.specs.declared.program.TreeFn.{TreeFn}
use Rattle.l32_target_statements.specs.l32_target_rules.specs.vax_target_meaning.specs.tree_core.specs.declared.program.TreeProgram.{TreeProgram}
use Rattle.l32_target_statements.specs.l32_target_rules.specs.vax_target_meaning.specs.tree_core.specs.Valid.{named, service_args, args_or, takes}
use Rattle.l32_target_statements.specs.l32_target_rules.specs.vax_target_meaning.specs.tree_core.specs.Names.{function_label}
use Rattle.l32_target_statements.specs.l32_target_rules.specs.vax_target_meaning.specs.tree_meaning.specs.State.{State as Trees, Extent}
use Rattle.l32_target_statements.specs.l32_target_rules.specs.vax_target_meaning.specs.tree_meaning.specs.Deeds.{Deed, Calls as Enters}
use Rattle.l32_target_statements.specs.l32_target_rules.specs.vax_target_meaning.specs.tree_meaning.specs.Steps as steps
use Rattle.l32_target_statements.specs.l32_target_rules.specs.vax_target_meaning.specs.tree_meaning.specs.Steps.{Step, without_pushed, called_as, wrote, got as answered, strays, deed_step}
use Rattle.l32_target_statements.specs.l32_target_rules.specs.judging_laws.specs.vax_templates.specs.vax_core.specs.First.{putchar_name}
use Rattle.l32_target_statements.specs.l32_target_rules.specs.vax_target_meaning.specs.vax_machine.specs.Labels.{getchar_name}
use Rattle.l32_target_statements.specs.l32_target_rules.specs.vax_target_meaning.specs.vax_machine_lists.specs.Sound.{AllBelow}
use Rattle.l32_target_statements.specs.l32_target_rules.specs.judging_laws.specs.md_reader.specs.declared.types.Class.{Class}
use Rattle.l32_target_statements.specs.l32_target_rules.specs.judging_laws.specs.md_reader.specs.declared.types.Rule.{Rule}
use Rattle.l32_target_statements.specs.l32_target_rules.specs.judging_laws.specs.sel_terms.specs.Effects.{ActShape, EffectShape, Call}
use Rattle.l32_target_statements.specs.l32_target_rules.specs.judging_laws.specs.sel_target.specs.declared.attr.Attr.{Attr}
use Rattle.l32_target_statements.specs.l32_target_rules.specs.judging_laws.specs.sel_target.specs.declared.attr.Attr.TheVariants as attr
use Rattle.l32_target_statements.specs.l32_target_rules.specs.judging_laws.specs.sel_target.specs.Courses.{Course, Calls, ends, comes}
use Rattle.l32_target_statements.specs.l32_target_rules.specs.judging_laws.specs.sel_target.specs.Values.{View}
use Rattle.l32_target_statements.specs.l32_target_rules.specs.judging_laws.specs.sel_target.specs.Instances.{Ready}
use Rattle.l32_target_statements.specs.l32_target_rules.specs.judging_laws.specs.sel_target.specs.StatementLaws.{att_of, IsStep, DoesAct}
use Rattle.l32_target_statements.specs.l32_target_rules.specs.judging_laws.specs.vax_templates.specs.FilledLines.{callee_of_att, function_name}
use Rattle.l32_target_statements.specs.l32_target_rules.specs.l32_templates.specs.l32_core.specs.declared.operand.Operand32.{Operand32}
use Rattle.l32_target_statements.specs.l32_target_rules.specs.l32_templates.specs.l32_core.specs.declared.code.Instr32.{Instr32}
use Rattle.l32_target_statements.specs.l32_target_rules.specs.l32_templates.specs.l32_machine.specs.State.{State, with_reg}
use Rattle.l32_target_statements.specs.l32_target_rules.specs.l32_templates.specs.l32_machine.specs.Calls.{got}
use Rattle.l32_target_statements.specs.l32_target_rules.specs.l32_templates.specs.FilledLines.{callee_in, callee_among, call_of}
use Rattle.l32_target_statements.specs.l32_target_rules.specs.l32_target_meaning.specs.Running.{course_of, performed, run}
use Rattle.l32_target_statements.specs.l32_target_rules.specs.l32_target_meaning.specs.Agreeing.{Agrees}
use Rattle.l32_target_statements.specs.l32_target_rules.specs.l32_target_meaning.specs.L32.{l32}
use Rattle.l32_target_statements.specs.l32_target_rules.specs.l32_states.proofs.Standing.{the_piece, fp_high_is, high_top, pushed_read, register_kept, result_kept, popped_kept}
use Rattle.l32_target_statements.specs.l32_target_rules.specs.l32_states.proofs.Sound.{reg_same}
use Rattle.l32_target_statements.specs.l32_target_rules.specs.l32_target_operands.specs.Scenes.{Scene}
use Rattle.l32_target_statements.specs.l32_target_rules.specs.l32_target_runs.specs.Runs.{EndsIn, IsDone, line_of}
use Rattle.l32_target_statements.specs.l32_target_rules.specs.Scene.{scene_of}
use Rattle.l32_target_statements.specs.Laws.{IsDeed}
use Rattle.l32_target_statements.proofs.Ended.{ended, agrees as agrees_there, room as room_there, live, done}
use Rattle.l32_target_calls.specs.Laws.{CallsDo}
use Rattle.l32_target_calls.proofs.Services.{call_instr, call_is, put_acts, putchar_is, getchar_is, input_agrees}

-- ---- the callee

token_is : (h : Attr Operand32) (a : Att) → att_of (Some h) ≡ Some a → (l : Leaf) × (h ≡ attr.Token l) × (l.att ≡ a)
token_is (attr.Token l) a e = (l, refl, same_Some l.att a e)
token_is _ a e = absurd (none-some a e)

-- it is the first hole's
callee_first : (hs : List (Attr Operand32)) (function count : ℕ) → att_of (slice_get hs 0) ≡ Some (att.Callee function count) → callee_among hs ≡ Some (function, count)
callee_first [] function count e = cc
callee_first (h ∷ hs) function count e =
    let t = token_is h (att.Callee function count) e in
    ap (λ x. option_or (callee_in x) (callee_among hs)) t.1 ∙ ap (λ x. option_or (callee_of_att x) (callee_among hs)) t.2

-- ---- names

none_named : (name : List ℕ) (fs : List TreeFn) (k : ℕ) (g : TreeFn) → named name fs ≡ 0 → slice_get fs k ≡ Some g → bytes_eq g.name name ≡ true → ⊥
none_named name [] k g none there is = cc
none_named name (x ∷ fs) zero g none there is =
    let one = ap (λ (b : Bool). cond b 1 0 + named name fs) (ap (λ (y : TreeFn). bytes_eq y.name name) (same_Some x g there) ∙ is) in omega (arith, one, none)
none_named name (x ∷ fs) (suc k) g none there is = none_named name fs k g (omega (arith, none)) there is

apart : (name : List ℕ) (fs : List TreeFn) (k : ℕ) (g : TreeFn) → named name fs ≡ 0 → slice_get fs k ≡ Some g → bytes_eq (function_label g.name) (function_label name) ≡ false
apart name fs k g none there =
    false_from_ne_true (bytes_eq (function_label g.name) (function_label name))
    (λ e. none_named name fs k g none there ((bytes_eq-Decides g.name name).1 (tail_same 95 95 g.name name ((bytes_eq-Decides (function_label g.name) (function_label name)).0 e))))

module _ (q : TreeProgram) (f : Extent) (fs : List Extent) (classes : List Class) (rule : Rule) (e : EffectShape) (hs : List (Attr Operand32)) (res : Attr Operand32) (v : View) (m : State)
    (ready : Ready l32 q f fs classes rule e hs res v m) (is_call : e.act ≡ Call) where
  abbrev S : Scene
  S = scene_of q classes rule hs res v

  abbrev D : Course Instr32 State
  D = run (map (line_of S) rule.lines) m

  deed : IsDeed e.act
  deed = subst IsDeed (sym is_call) tt

  abbrev E : EndsIn S m e.act D
  E = ended q f fs classes rule e hs res v m ready deed

  abbrev n : State
  n = E.state

  abbrev t : Trees
  t = v.state

  abbrev G : Step → Type 0
  G s = IsStep l32 q f fs v.state m D s

  agrees : Agrees q.objects f fs t n
  agrees = agrees_there q f fs classes rule e hs res v m ready deed

  frames : n.frames ≡ m.frames
  frames = live q f fs classes rule e hs res v m ready deed

  called_by : IsDone S n Call D → D ≡ performed (call_of q (callee_among hs)) n
  called_by (inl x) = x.1
  called_by (inr x) = absurd (let z = x.1 in cc)

  called : D ≡ performed (call_of q (callee_among hs)) n
  called = called_by (done q f fs classes rule e hs res v m ready deed Call is_call)

  -- a function of the program
  entered_by : (b : Bool) (g : TreeFn) (arguments : List ℕ) (s : Trees) → G (steps.Enters g arguments s) → G (cond b (steps.Enters g arguments s) (steps.Ends finish.Deep))
  entered_by true g arguments s h = h
  entered_by false g arguments s h = tt

  function_goes : (function count : ℕ) (g : TreeFn) → slice_get q.functions function ≡ Some g → D ≡ performed (call_instr count (function_label g.name)) n → length t.running.pushed ≡ count →
      G (called_as (without_pushed t count) (Some g) (function - length q.functions) (take count t.running.pushed))
  function_goes function count g there is many =
      let names = ready.instance_of.program.names in
      let size : count ≡ length (take count t.running.pushed) = sym (length-take-le count t.running.pushed (omega (arith, many))) in
      let ran = is ∙ call_is count (function_label g.name) n (apart (codes "putchar") q.functions function g names.no_putchar there)
      (apart (codes "getchar") q.functions function g names.no_getchar there) in
      entered_by (nat_lt (1 + length t.callers) 1024) g (take count t.running.pushed) (without_pushed t count)
      (n, ran ∙ ap (λ (k : ℕ). ends (Calls (function_label g.name) k n [])) size, record { agrees = agrees; live = frames }, room_there q f fs classes rule e hs res v m ready deed)

  -- a service
  putchar_goes : (p : List ℕ) → t.running.pushed ≡ p → length p ≡ 1 → D ≡ performed (call_instr 1 putchar_name) n → G (wrote (without_pushed t 1) (slice_get (take 1 t.running.pushed) 0))
  putchar_goes [] eq size is = absurd (omega (arith, size))
  putchar_goes (x ∷ rest) eq size is =
      let first : slice_get t.running.pushed 0 ≡ Some x = ap (λ (l : List ℕ). slice_get l 0) eq in
      let taken_first : slice_get (take 1 t.running.pushed) 0 ≡ Some x = ap (λ (l : List ℕ). slice_get (take 1 l) 0) eq in
      let many : 1 ≤ length t.running.pushed = omega (arith, ap length eq) in
      let b = x % 2 ^ 8 in
      let k = record n { sp = n.sp + 4 } in
      let popped = without_pushed t 1 in
      let a : Agrees q.objects f fs popped k = popped_kept q.objects f fs t n agrees 1 many in
      let r : Agrees q.objects f fs popped (with_reg k 0 b) = register_kept q.objects f fs popped k a 0 b (omega arith) in
      let high : n.sp + 4 ≤ 2147483648 = omega (arith, agrees.running.words, many, fp_high_is q.objects f fs t n agrees, high_top q.objects f fs t n agrees) in
      subst (λ (o : Option ℕ). G (wrote popped o)) (sym taken_first) (
        with_reg k 0 b,
        is ∙ putchar_is n (Some b) (with_reg k 0 b) (put_acts n x (pushed_read q.objects f fs t n agrees x first) agrees.bottom high),
        record { agrees = result_kept q.objects f fs popped (with_reg k 0 b) r b; live = frames },
        reg_same k 0 b a.sound (omega arith),
      )

  getchar_goes : (input : List ℕ) → AllBelow 256 input → D ≡ comes (got n input) → G (answered (without_pushed t 0) input)
  getchar_goes [] small is =
      let b = 2 ^ 32 - 1 in
      let r : Agrees q.objects f fs (without_pushed t 0) (with_reg n 0 b) = register_kept q.objects f fs t n agrees 0 b (omega arith) in
      (_, is, record { agrees = result_kept q.objects f fs t _ r b; live = frames }, reg_same n 0 b agrees.sound (omega arith))
  getchar_goes (b ∷ rest) small is =
      let a = input_agrees q.objects f fs t n agrees rest small.1 in
      let k = record n { input = rest } in
      let s = record t { input = rest } in
      let r : Agrees q.objects f fs s (with_reg k 0 b) = register_kept q.objects f fs s k a 0 b (omega (arith, small.0)) in
      (_, is, record { agrees = result_kept q.objects f fs s _ r b; live = frames }, reg_same k 0 b a.sound (omega arith))

  service_goes : (first second : Bool) (count : ℕ) → takes (cond first (Some 1) (cond second (Some 0) None)) count ≡ true → length t.running.pushed ≡ count →
      D ≡ performed (call_instr count (cond first (codes "_putchar") (codes "_getchar"))) n →
      G (cond first (wrote (without_pushed t count) (slice_get (take count t.running.pushed) 0)) (cond second (answered (without_pushed t count) t.input) strays))
  service_goes true second count takes_so many is =
      let one : 1 ≡ count = eqb-true 1 count takes_so in
      subst (λ k. G (wrote (without_pushed t k) (slice_get (take k t.running.pushed) 0))) one
      (putchar_goes t.running.pushed refl (many ∙ sym one) (is ∙ ap (λ k. performed (call_instr k putchar_name) n) (sym one)))
  service_goes false true count takes_so many is =
      let none : 0 ≡ count = eqb-true 0 count takes_so in
      subst (λ k. G (answered (without_pushed t k) t.input)) none
      (subst (λ (i : List ℕ). G (answered (without_pushed t 0) i)) agrees.input
      (getchar_goes n.input agrees.sound.input_bytes (is ∙ ap (λ k. performed (call_instr k getchar_name) n) (sym none) ∙ getchar_is n)))
  service_goes false false count takes_so many is = absurd (true≢false (sym takes_so))

  callee_goes : (o : Option TreeFn) (function count : ℕ) → slice_get q.functions function ≡ o → takes (args_or o (service_args (function - length q.functions))) count ≡ true →
      length t.running.pushed ≡ count → D ≡ performed (call_instr count (function_name o (function - length q.functions))) n →
      G (called_as (without_pushed t count) o (function - length q.functions) (take count t.running.pushed))
  callee_goes (Some g) function count there takes_so many is = function_goes function count g there is many
  callee_goes None function count there takes_so many is = service_goes (function - length q.functions == 0) (function - length q.functions == 1) count takes_so many is

  pub call_goes : (d : Deed) → DoesAct l32 q f rule.restrictions hs v m Call d → G (deed_step q t d)
  call_goes (Enters function count) h =
      callee_goes (slice_get q.functions function) function count refl h.1 h.2 (called ∙ ap (λ o. performed (call_of q o) n) (callee_first hs function count h.0))
  call_goes _ h = absurd h

pub calls_do : CallsDo
calls_do q f fs classes rule e d hs res v m ready act h = call_goes q f fs classes rule e hs res v m ready act d (subst (λ a. DoesAct l32 q f rule.restrictions hs v m a d) act h)
