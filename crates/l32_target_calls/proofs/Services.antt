-- What a call does: it is left to be done, or the service is done.
use Rattle.std.proofs.Common.{◌≡◌, ℕ, ◌+◌, ◌%◌, ◌^◌, ◌≤◌, ◌<◌, Bool, false, cond, List, [], ◌∷◌, Option, Some, None, option_to_list, Result, Ok, Err, refl, ap, ◌∙◌, arith}
use Rattle.std.specs.Prelude.{nat_lt}
use Rattle.std.specs.Str.{bytes_eq}
use Rattle.std.proofs.lemmas.Bool.{le-ltb}
use Rattle.gg_base.specs.Arithmetic.{add32}
use Rattle.gg_base.specs.declared.size.Size.TheVariants.{Long}
use Rattle.l32_target_statements.specs.l32_target_rules.specs.vax_target_meaning.specs.tree_core.specs.declared.program.Object.{Object}
use Rattle.l32_target_statements.specs.l32_target_rules.specs.vax_target_meaning.specs.tree_meaning.specs.State.{State as Trees, Extent}
use Rattle.l32_target_statements.specs.l32_target_rules.specs.judging_laws.specs.vax_templates.specs.vax_core.specs.First.{putchar_name}
use Rattle.l32_target_statements.specs.l32_target_rules.specs.vax_target_meaning.specs.vax_machine.specs.Labels.{getchar_name}
use Rattle.l32_target_statements.specs.l32_target_rules.specs.vax_target_meaning.specs.vax_machine_lists.specs.Sound.{AllBelow}
use Rattle.l32_target_statements.specs.l32_target_rules.specs.judging_laws.specs.sel_target.specs.Courses.{Comes, Calls, ends, comes}
use Rattle.l32_target_statements.specs.l32_target_rules.specs.l32_templates.specs.l32_core.specs.declared.op.Op32.TheVariants as ops
use Rattle.l32_target_statements.specs.l32_target_rules.specs.l32_templates.specs.l32_core.specs.declared.operand.Operand32.TheVariants as operands
use Rattle.l32_target_statements.specs.l32_target_rules.specs.l32_templates.specs.l32_core.specs.declared.code.Instr32.{Instr32}
use Rattle.l32_target_statements.specs.l32_target_rules.specs.l32_templates.specs.l32_machine.specs.declared.turn.Stop32.{Stop32}
use Rattle.l32_target_statements.specs.l32_target_rules.specs.l32_templates.specs.l32_machine.specs.State.{State, with_reg, stack_full, ◌>>=◌}
use Rattle.l32_target_statements.specs.l32_target_rules.specs.l32_templates.specs.l32_machine.specs.Memory.{read, sp_set}
use Rattle.l32_target_statements.specs.l32_target_rules.specs.l32_templates.specs.l32_machine.specs.Operands as machine
use Rattle.l32_target_statements.specs.l32_target_rules.specs.l32_templates.specs.l32_machine.specs.Calls.{Acts, putchar, getchar, got}
use Rattle.l32_target_statements.specs.l32_target_rules.specs.l32_target_meaning.specs.Running.{course_of, performed}
use Rattle.l32_target_statements.specs.l32_target_rules.specs.l32_target_meaning.specs.Agreeing.{Agrees}
use Rattle.l32_target_statements.specs.l32_target_rules.specs.l32_states.proofs.Standing.{rebuilt}

-- ---- the instruction

abbrev pub call_instr : ℕ → List ℕ → Instr32
call_instr count name = record { op = ops.Call; operands = operands.Num count ∷ []; target = Some name }

pub call_is : (count : ℕ) (name : List ℕ) (m : State) → bytes_eq name putchar_name ≡ false → bytes_eq name getchar_name ≡ false → performed (call_instr count name) m ≡ ends (Calls name count m [])
unfolding performed machine.evaluated machine.fetched
call_is count name m p q =
    ap (λ (b : Bool). cond b (course_of (putchar m count)) (cond (bytes_eq name getchar_name) (course_of (getchar m count)) (ends (Calls name count m [])))) p
    ∙ ap (λ (b : Bool). cond b (course_of (getchar m count)) (ends (Calls name count m []))) q

pub putchar_is : (m : State) (o : Option ℕ) (n : State) → putchar m 1 ≡ Ok (o, n) → performed (call_instr 1 putchar_name) m ≡ record { written = option_to_list o; ending = Comes n }
unfolding performed machine.evaluated machine.fetched
putchar_is m o n e = ap (λ (r : Acts). course_of r) e

pub getchar_is : (m : State) → performed (call_instr 0 getchar_name) m ≡ comes (got m m.input)
unfolding performed machine.evaluated machine.fetched getchar
getchar_is m = refl

-- ---- what they do

abbrev raised : State → State
raised m = record m { sp = m.sp + 4 }

set_up : (m : State) → 2139095040 ≤ m.sp → m.sp + 4 ≤ 2147483648 → sp_set m (add32 m.sp 4) ≡ Ok (raised m)
unfolding sp_set
set_up m low high =
    let x : add32 m.sp 4 ≡ m.sp + 4 = omega (arith, high) in
    ap (λ (sp : ℕ). cond (nat_lt sp 2139095040) (Err stack_full) (Ok (record m { sp = sp }))) x
    ∙ ap (λ (b : Bool). cond b (Err stack_full) (Ok (raised m))) (le-ltb (m.sp + 4) 2139095040 (omega (arith, low)))

pub put_acts : (m : State) (v : ℕ) → read m m.sp Long ≡ Ok v → 2139095040 ≤ m.sp → m.sp + 4 ≤ 2147483648 → putchar m 1 ≡ Ok (Some (v % 2 ^ 8), with_reg (raised m) 0 (v % 2 ^ 8))
unfolding putchar
put_acts m v e low high =
    ap (λ (r : Result ℕ Stop32). r >>= λ (v : ℕ). sp_set m (add32 m.sp 4) >>= λ (n : State). Ok (Some (v % 2 ^ 8), with_reg n 0 (v % 2 ^ 8))) e
    ∙ ap (λ (r : Result State Stop32). r >>= λ (n : State). Ok (Some (v % 2 ^ 8), with_reg n 0 (v % 2 ^ 8))) (set_up m low high)

-- a byte of the input is taken
pub input_agrees : (objects : List Object) (e : Extent) (es : List Extent) (t : Trees) (m : State) (h : Agrees objects e es t m) (rest : List ℕ) → AllBelow 256 rest
    → Agrees objects e es (record t { input = rest }) (record m { input = rest })
input_agrees objects e es t m h rest small =
    rebuilt objects e es t m h (record m { input = rest }) (record t { input = rest })
    (record {
      going = h.sound.going;
      registers = h.sound.registers;
      longwords = h.sound.longwords;
      stack = h.sound.stack;
      stack_bytes = h.sound.stack_bytes;
      area = h.sound.area;
      area_bytes = h.sound.area_bytes;
      input_bytes = small;
    })
    refl h.area refl refl h.running refl (λ a from. refl) h.bottom
