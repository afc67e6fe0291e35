-- What instructions of the toy machine do.
use Rattle.std.specs.Prelude.{ℕ, ◌-◌, ◌%◌, ◌^◌, ◌==◌, List, [], ◌∷◌, Option, Some, None, cond, length, slice_get}
use Rattle.gg_base.specs.declared.size.Size.{Size}
use Rattle.gg_base.specs.declared.size.Size.TheVariants.{Long}
use Rattle.gg_base.specs.Arithmetic.{add32, div32}
use Rattle.gg_base.specs.Relations.{holds}
use Rattle.tree_core.specs.Area.{stored}
use Rattle.tree_core.specs.Names.{label_name, function_label}
use Rattle.sel_target.specs.Courses.{Course, Comes, Goes, Calls, Returns, Breaks, ends, comes, traps, followed}
use Rattle.sel_toy_machine.specs.declared.operand.Operand.{Operand}
use Rattle.sel_toy_machine.specs.declared.operand.Operand.TheVariants as operand
use Rattle.sel_toy_machine.specs.declared.operand.Source.{Source}
use Rattle.sel_toy_machine.specs.declared.operand.Source.TheVariants as source
use Rattle.sel_toy_machine.specs.declared.operand.Destination.{Destination}
use Rattle.sel_toy_machine.specs.declared.operand.Destination.TheVariants as destination
use Rattle.sel_toy_machine.specs.declared.operand.Instr.{Instr}
use Rattle.sel_toy_machine.specs.declared.operand.Instr.TheVariants as instruction
use Rattle.sel_toy_machine.specs.Machine.{Machine, in_register, in_word, long, reads, names, with_register, with_word}
use Rattle.sel_toy_machine.specs.Machine.{with_argument, with_area}

abbrev pub taken : Source → Size → Machine → Option ℕ
taken (source.Read o) size m = reads o size m
taken (source.Address o) size m = names o size m

abbrev pub put_in : Destination → ℕ → Machine → Machine
put_in (destination.Register r) x m = with_register m r x
put_in (destination.Word w) x m = with_word m w x
put_in destination.Nowhere x m = m

-- what can't be read breaks
abbrev pub read_then : Option ℕ → (ℕ → Course Instr Machine) → Course Instr Machine
read_then None go = ends Breaks
read_then (Some x) go = go x

-- a division by zero traps
abbrev pub divided : Option ℕ → (ℕ → Course Instr Machine) → Course Instr Machine
divided None go = traps
divided (Some x) go = go x

-- a number is put in a place; what is no place breaks
abbrev pub put_area : Option (List ℕ) → Machine → Course Instr Machine
put_area None m = ends Breaks
put_area (Some bytes) m = comes (with_area m bytes)

abbrev pub put_place : Size → Operand → ℕ → Machine → Course Instr Machine
put_place size (operand.Register r) x m = ends Breaks
put_place size (operand.Based r) x m = put_area (stored size m.area (long (in_register m r)) x) m
put_place size (operand.Word w) x m = comes (with_word m w x)
put_place size (operand.Deferred w) x m = put_area (stored size m.area (long (in_word m w)) x) m
put_place size (operand.Argument k) x m = comes (with_argument m k x)
put_place size (operand.Number n) x m = ends Breaks

-- putchar writes a byte and answers it, getchar answers the next byte, or -1
abbrev pub written : List ℕ → Machine → Course Instr Machine
written [] m = ends Breaks
written (x ∷ xs) m = record { written = x % 2 ^ 8 ∷ []; ending = Comes (with_register (record m { pushed = xs }) 0 (x % 2 ^ 8)) }

abbrev pub taken_in : List ℕ → Machine → Course Instr Machine
taken_in [] m = comes (with_register m 0 4294967295)
taken_in (b ∷ bs) m = comes (with_register (record m { input = bs }) 0 b)

abbrev pub service : ℕ → Machine → Course Instr Machine
service n m = cond (n == 0) (written m.pushed m) (cond (n == 1) (taken_in m.input m) (ends Breaks))

abbrev pub called : Option (List ℕ) → ℕ → ℕ → Machine → Course Instr Machine
called None n count m = service n m
called (Some name) n count m = ends (Calls (function_label name) count m [])

abbrev pub step : Instr → Machine → Course Instr Machine
step (instruction.Move size s d) m = read_then (taken s size m) (λ x. comes (put_in d x m))
step (instruction.Add a b d) m = read_then (taken a Long m) (λ x. read_then (taken b Long m) (λ y. comes (put_in d (add32 x y) m)))
step (instruction.Divide a b d) m = read_then (taken a Long m) (λ x. read_then (taken b Long m)
    (λ y. divided (div32 x y) (λ z. comes (put_in d z m))))
step (instruction.Store size o s) m = read_then (taken s Long m) (λ x. put_place size o x m)
step (instruction.Push s) m = read_then (taken s Long m) (λ x. comes (record m { pushed = x ∷ m.pushed }))
step (instruction.Branch rel a b label) m =
    read_then (taken a Long m) (λ x. read_then (taken b Long m) (λ y. cond (holds rel x y) (ends (Goes (label_name label) m)) (comes m)))
step (instruction.Jump label) m = ends (Goes (label_name label) m)
step (instruction.Call function count) m = called (slice_get m.functions function) (function - length m.functions) count m
step (instruction.Return s) m = read_then (taken s Long m) (λ x. ends (Returns (with_register m 0 x)))
step (instruction.Save w) m = comes (with_word m w (long (in_register m 0)))
step instruction.Stop m = ends Breaks

abbrev pub run : List Instr → Machine → Course Instr Machine
run [] m = comes m
run (i ∷ is) m = followed (step i m) is (run is)
