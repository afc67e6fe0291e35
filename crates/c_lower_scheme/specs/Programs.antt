-- How functions and programs are lowered.
use Rattle.std.specs.Prelude.{ℕ, zero, suc, ◌-◌, List, [], ◌∷◌, length}
use Rattle.tree_core.specs.declared.program.TreeFn.{TreeFn}
use Rattle.tree_core.specs.declared.program.TreeProgram.{TreeProgram}
use Rattle.c_program.specs.Programs.{ARoutine, AProgram}
use Rattle.c_lower_scheme.specs.Trees.{Num}
use Rattle.c_lower_scheme.specs.Spelling.{spelled_all}
use Rattle.c_lower_scheme.specs.Parts.{Emitted, Destination, AsResult, Releasing, nothing, due, delivered}
use Rattle.c_lower_scheme.specs.Flow.{done_by, claimed}
use Rattle.c_lower_scheme.specs.Statements.{lower_row}

-- A function with so many automatic locals, and so many bytes of memory locals: its first temporary, behind the local that keeps the address
-- of its block if it has one; what is done before its statements; and where its result goes. The pointer is that of the second stack.
abbrev pub first_temporary : ℕ → ℕ → ℕ
first_temporary size zero = size
first_temporary size (suc block) = suc size

abbrev pub way_in : ℕ → ℕ → ℕ → ℕ → ℕ → Emitted
way_in size first pointer zero l = nothing first l
way_in size first pointer (suc block) l = claimed size first pointer (suc block) l

abbrev pub way_out : ℕ → ℕ → ℕ → Destination
way_out pointer size zero = AsResult
way_out pointer size (suc block) = Releasing pointer size

-- Behind its statements a function answers 0. It has no loop around it, so no `break` or `continue` goes to the label 0 that is named here.
abbrev pub body_by : ℕ → ℕ → ℕ → ℕ → Destination → ARoutine → ℕ → Emitted
body_by size count first pointer out g l =
    done_by (way_in size first pointer g.block l) (λ m. done_by (lower_row size count first out g.body 0 0 m)
    (λ n. delivered out (due (Num 0) first n)))

-- a function's items, from the first free label on
abbrev pub body_of : ℕ → ℕ → ARoutine → ℕ → Emitted
body_of pointer count g l = body_by (length g.locals) count (first_temporary (length g.locals) g.block) pointer
    (way_out pointer (length g.locals) g.block) g l

-- the `register` locals are wanted in registers
abbrev pub function_of : ARoutine → Emitted → TreeFn
function_of g p = record {
  name = g.name;
  args = length g.parameters;
  locals = p.temps;
  wanted = g.registers;
  items = spelled_all p.items;
}

abbrev pub lower_all : ℕ → ℕ → List ARoutine → ℕ → List TreeFn
lower_all pointer count [] l = []
lower_all pointer count (g ∷ gs) l = function_of g (body_of pointer count g l) ∷ lower_all pointer count gs (body_of pointer count g l).labels

-- the tree program of a program; the pointer of the second stack is the last object but one
abbrev pub lowered : AProgram → TreeProgram
lowered p = record { functions = lower_all (length p.objects - 2) (length p.routines) p.routines 0; objects = p.objects }
