-- The simplest trees and their instructions: a push of a number, a call of `putchar`, and `return 0`. They show that trees can have the
-- effect that is asked of them.
use Rattle.std.proofs.Common.{◌≡◌, ℕ, ◌+◌, ◌-◌, ◌%◌, ◌^◌, ◌<◌, ◌≤◌, List, [], ◌∷◌, length, take, Option, Some, None, option_to_list, Result, Ok, refl, sym, ap}
use Rattle.std.proofs.Common.{subst, ◌∙◌, arith, get_or-set_same}
use Rattle.std.specs.Prelude.{slice_get}
use Rattle.std.proofs.lemmas.Option.{slice_get_past}
use Rattle.gg_base.specs.declared.size.Size.TheVariants.{Long}
use Rattle.vax_core.specs.declared.register.Reg.TheVariants.{R0, Sp}
use Rattle.vax_core.specs.declared.op.Op.TheVariants.{Pushl}
use Rattle.vax_machine.specs.declared.turn.Stop.{Stop}
use Rattle.vax_machine.specs.declared.function.Conditions.{Conditions}
use Rattle.vax_machine.specs.State.{State, reg, with_reg, with_conditions, cleared, ◌>>=◌}
use Rattle.vax_machine.specs.Memory.{register_set}
use Rattle.vax_machine.specs.Operands.{located, taken, stored}
use Rattle.vax_machine.specs.Functions.{valued}
use Rattle.vax_machine.specs.Calls.{Acts, pushed, putchar}
use Rattle.tree_core.specs.declared.tree.Leaf.{Leaf}
use Rattle.tree_core.specs.declared.tree.Att.TheVariants as att
use Rattle.tree_core.specs.declared.token.Tok.TheVariants as tok
use Rattle.tree_core.specs.Attributes.{end_leaf}
use Rattle.tree_core.specs.declared.program.Object.{Object}
use Rattle.tree_core.specs.declared.program.TreeFn.{TreeFn}
use Rattle.tree_core.specs.declared.program.TreeProgram.{TreeProgram}
use Rattle.tree_core.specs.Trees.{grown}
use Rattle.tree_meaning.specs.State.{State as Trees, Extent}
use Rattle.tree_meaning.specs.Steps.{Step, without_pushed, called_as, served, wrote, with_pushed, tree_step}
use Rattle.vax_frames_law.specs.vax_states.specs.Agreeing.{Agrees}
use Rattle.vax_core.specs.First.{putchar_name, imm}
use Rattle.vax_machine_lists.specs.Instructions.{Comes, Returns, ends, comes, course_of, followed}
use Rattle.vax_homes_items.specs.vax_homes_law.specs.vax_confined.specs.Confined.{evaluated, performed, exec}
use Rattle.vax_machine_lists.proofs.Soundness.{conditions_sound}
use Rattle.gg_compile_law.specs.Effects.{Does, IsReady, HasEffect}
use Rattle.gg_compile_law.specs.Demo.{call_code}
use Rattle.vax_frames_law.specs.vax_frames.specs.Frames.{instr, end_code}
use Rattle.vax_frames_law.specs.vax_states.proofs.Standing.{kept, register_kept, push_written}
use Rattle.vax_frames_law.specs.vax_states.proofs.Popping.{put_acts, set_up, agrees_result, sp_high, agrees_popped, top_read}
use Rattle.vax_frames_law.proofs.FrameCode.{ended, end_agrees, end_result}

module _ (objects : List Object) (e : Extent) (es : List Extent) (t : Trees) (m : State) (h : Agrees objects e es t m) where
  -- the condition codes don't matter
  pub agrees_codes : (c : Conditions) → Agrees objects e es t (with_conditions m c)
  agrees_codes c = kept objects e es t m h (with_conditions m c) (conditions_sound m c h.sound) refl refl refl refl refl refl refl (λ a from. refl)

push_is : (n : ℕ) (m k : State) → pushed m n ≡ Ok k → exec (instr Pushl (imm n ∷ []) ∷ []) m ≡ comes (with_conditions k (valued Long n m.conditions.carry).conditions)
unfolding performed evaluated located taken
push_is n m k e = ap (λ (r : Result State Stop). followed (course_of (r >>= λ (x : State). Ok (None, with_conditions x (valued Long n m.conditions.carry).conditions))) [] (λ (x : State). comes x)) e

putchar_is : (m : State) (o : Option ℕ) (n : State) → putchar m 1 ≡ Ok (o, n) → exec (call_code 1 putchar_name) m ≡ record { written = option_to_list o; ending = Comes n }
unfolding performed evaluated located taken
putchar_is m None n e = ap (λ (r : Acts). followed (course_of r) [] (λ (x : State). comes x)) e
putchar_is m (Some b) n e = ap (λ (r : Acts). followed (course_of r) [] (λ (x : State). comes x)) e

-- the end of a function's code, run confined
end_is : (objects : List Object) (e : Extent) (es : List Extent) (t : Trees) (m : State) (h : Agrees objects e es t m) → exec end_code m ≡ ends (Returns (ended objects e es t m h))
unfolding performed evaluated located taken stored register_set
end_is objects e es t m h = refl

module _ (program : TreeProgram) (locals args most : ℕ) where
  -- a number is pushed by `pushl $n`
  abbrev push_tree : ℕ → List Leaf
  push_tree n = record { tok = tok.Push; att = att.Nothing } ∷ (record { tok = tok.Const; att = att.Number n } ∷ (end_leaf ∷ []))

  pub push_effect : (n : ℕ) → n < 2 ^ 32 → HasEffect program locals args most (push_tree n) (instr Pushl (imm n ∷ []) ∷ [])
  push_effect n lt = record { some = omega arith; does = does }
    where
      does : (e : Extent) (es : List Extent) (t : Trees) (m : State) → Agrees program.objects e es t m → IsReady locals args most (push_tree n) e t m
          → Does program.objects e es t m (tree_step program t (grown (push_tree n))) (exec (instr Pushl (imm n ∷ []) ∷ []) m)
      does e es t m h ready =
          let p = push_written program.objects e es t m h n ready.room lt in
          (_, push_is n m _ p.0, record { frames = refl; agrees = agrees_codes program.objects e es (with_pushed t n) _ p.1 (valued Long n m.conditions.carry).conditions })

  -- `return 0`
  abbrev ret_tree : List Leaf
  ret_tree = record { tok = tok.Ret; att = att.Nothing } ∷ (record { tok = tok.Zero; att = att.Number 0 } ∷ (end_leaf ∷ []))

  pub return_effect : HasEffect program locals args most ret_tree end_code
  return_effect = record {
    some = omega arith;
    does = λ e es t m h ready. (_, end_is program.objects e es t m h, record { frames = refl; agrees = end_agrees program.objects e es t m h }, end_result program.objects e es t m h);
  }

  -- a call
  abbrev call_tree : ℕ → ℕ → List Leaf
  call_tree f count = record { tok = tok.Call; att = att.Callee f count } ∷ (end_leaf ∷ [])

  -- ---- the services

  abbrev service : ℕ → ℕ
  service k = length program.functions + k

  served_as : (t : Trees) (k : ℕ) (args : List ℕ) → called_as t (slice_get program.functions (service k)) (service k - length program.functions) args ≡ served t k args
  served_as t k args =
      let at : service k - length program.functions ≡ k = omega arith in
      ap (λ (o : Option TreeFn). called_as t o (service k - length program.functions) args) (slice_get_past program.functions (service k) (omega arith))
      ∙ ap (λ (n : ℕ). served t n args) at

  putchar_by : (e : Extent) (es : List Extent) (t : Trees) (m : State) → Agrees program.objects e es t m → (p : List ℕ) → t.running.pushed ≡ p → length p ≡ 1
      → Does program.objects e es t m (wrote (without_pushed t 1) (slice_get (take 1 t.running.pushed) 0)) (exec (call_code 1 putchar_name) m)
  putchar_by e es t m h [] eq size = absurd (omega (arith, size))
  putchar_by e es t m h (v ∷ rest) eq size =
      let first : slice_get t.running.pushed 0 ≡ Some v = ap (λ (l : List ℕ). slice_get l 0) eq in
      let taken_first : slice_get (take 1 t.running.pushed) 0 ≡ Some v = ap (λ (l : List ℕ). slice_get (take 1 l) 0) eq in
      let many : 1 ≤ length t.running.pushed = omega (arith, ap length eq) in
      let k = with_reg m Sp (reg m Sp + 4) in
      let b = v % 2 ^ 8 in
      let n = with_conditions (with_reg k R0 b) cleared in
      let popped = without_pushed t 1 in
      let a : Agrees program.objects e es popped k = agrees_popped program.objects e es t m h 1 many in
      let c : Agrees program.objects e es popped (with_reg k R0 b) = register_kept program.objects e es popped k a R0 b (omega arith) (omega arith) in
      let d : Agrees program.objects e es popped n = agrees_codes program.objects e es popped (with_reg k R0 b) c cleared in
      subst (λ (o : Option ℕ). Does program.objects e es t m (wrote popped o) (exec (call_code 1 putchar_name) m)) (sym taken_first) (
        n,
        putchar_is m (Some b) n (put_acts m v (top_read program.objects e es t m h v first) (set_up m h.bottom (sp_high program.objects e es t m h))),
        record { frames = refl; agrees = agrees_result program.objects e es popped n d b },
        get_or-set_same k.registers 0 b 0 (omega (arith, a.sound.registers)),
      )

  -- `calls $1,_putchar`
  pub putchar_effect : HasEffect program locals args most (call_tree (service 0) 1) (call_code 1 putchar_name)
  putchar_effect = record {
    some = omega arith;
    does =
        λ e es t m h ready. subst (λ (d : Step). Does program.objects e es t m d (exec (call_code 1 putchar_name) m)) (sym (served_as (without_pushed t 1) 0 (take 1 t.running.pushed)))
        (putchar_by e es t m h t.running.pushed refl (ready.pushed (service 0) 1 refl));
  }
