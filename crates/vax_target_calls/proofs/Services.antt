-- What a call does to states that stand for a state of trees: it is left to be done, or the service is done.
use Rattle.std.proofs.Common.{◌≡◌, ℕ, Bool, false, cond, List, [], ◌∷◌, Option, Some, option_to_list, Ok, refl, ap, ◌∙◌}
use Rattle.std.specs.Str.{bytes_eq}
use Rattle.tree_core.specs.declared.program.Object.{Object}
use Rattle.tree_meaning.specs.State.{State as Trees, Extent}
use Rattle.vax_core.specs.declared.op.Op.TheVariants as ops
use Rattle.vax_core.specs.declared.operand.Base.TheVariants as bases
use Rattle.vax_core.specs.declared.code.Instr.{Instr}
use Rattle.vax_core.specs.First.{putchar_name}
use Rattle.vax_machine.specs.State.{State}
use Rattle.vax_machine.specs.Operands.{located, taken}
use Rattle.vax_machine.specs.Labels.{getchar_name}
use Rattle.vax_machine.specs.Calls.{Acts, putchar, getchar, got}
use Rattle.vax_target_statements.specs.vax_machine_lists.specs.Sound.{AllBelow}
use Rattle.vax_target_statements.specs.vax_machine_lists.specs.Instructions.{Comes, Calls, ends, comes, course_of}
use Rattle.vax_target_statements.specs.vax_confined.specs.Confined.{evaluated, performed}
use Rattle.vax_target_statements.specs.vax_states.specs.Agreeing.{Agrees}
use Rattle.vax_target_statements.specs.vax_states.proofs.Standing.{rebuilt}
use Rattle.vax_target_statements.specs.vax_templates.specs.Filled.{alone, addr_number}

-- ---- the instruction

abbrev pub call_instr : ℕ → List ℕ → Instr
call_instr count name = record { op = ops.Calls; operands = alone (bases.Imm (addr_number count)) ∷ []; target = Some name }

pub call_is : (count : ℕ) (name : List ℕ) (m : State) → bytes_eq name putchar_name ≡ false → bytes_eq name getchar_name ≡ false → performed (call_instr count name) m ≡ ends (Calls name count m [])
unfolding performed evaluated located taken
call_is count name m p q =
    ap (λ (b : Bool). cond b (course_of (putchar m count)) (cond (bytes_eq name getchar_name) (course_of (getchar m count)) (ends (Calls name count m [])))) p
    ∙ ap (λ (b : Bool). cond b (course_of (getchar m count)) (ends (Calls name count m []))) q

pub putchar_is : (m : State) (o : Option ℕ) (n : State) → putchar m 1 ≡ Ok (o, n) → performed (call_instr 1 putchar_name) m ≡ record { written = option_to_list o; ending = Comes n }
unfolding performed evaluated located taken
putchar_is m o n e = ap (λ (r : Acts). course_of r) e

pub getchar_is : (m : State) → performed (call_instr 0 getchar_name) m ≡ comes (got m m.input)
unfolding performed evaluated located taken getchar
getchar_is m = refl

-- ---- states

module _ (objects : List Object) (e : Extent) (es : List Extent) (t : Trees) (m : State) (h : Agrees objects e es t m) where
  -- a byte of the input is taken
  pub input_agrees : (rest : List ℕ) → AllBelow 256 rest → Agrees objects e es (record t { input = rest }) (record m { input = rest })
  input_agrees rest small =
      rebuilt objects e es t m h (record m { input = rest }) (record t { input = rest })
      (record {
        going = h.sound.going;
        registers = h.sound.registers;
        longwords = h.sound.longwords;
        stack = h.sound.stack;
        stack_bytes = h.sound.stack_bytes;
        area = h.sound.area;
        area_bytes = h.sound.area_bytes;
        input_bytes = small;
      })
      refl h.area refl refl refl refl h.running refl (λ a from. refl) h.bottom
