-- What a function's body is typed as, with the block of its memory locals.
-- This is how the code computes it; the rules of typing are the relations of c_typed_law.
use Rattle.std.specs.Prelude.{ℕ, nat_lt, List, [], ◌∷◌, length, map, slice_index_or, Option, Some, None, Result, Ok, if◌then◌else◌}
use Rattle.c_types.specs.declared.typed.TheConstants.{BLOCK_LIMIT}
use Rattle.c_typed_addressed.specs.c_phrases.specs.declared.operator.Spec.{Spec}
use Rattle.c_typed_addressed.specs.c_phrases.specs.Units.{SomeItems, AFunction}
use Rattle.c_types.specs.declared.types.CType.{CType}
use Rattle.c_types.specs.declared.fault.TypeKind.TheVariants.{DataFull}
use Rattle.c_types.specs.Answers.{Fault, bad}
use Rattle.c_program.specs.Statements.{ADeclaration, SomeActions, MoreActions, DeclareOf}
use Rattle.c_program.specs.Programs.{ARoutine}
use Rattle.c_program.specs.Need.{need_of}
use Rattle.c_typed_addressed.specs.c_typed_scope.specs.Scopes.{enter, leave}
use Rattle.c_typed_addressed.specs.c_typed_scope.specs.Layout.{aligned}
use Rattle.c_typed_addressed.specs.c_typed_expressions.specs.Phrases.{params_in}
use Rattle.c_typed_addressed.specs.c_typed_expressions.specs.Expressions.{written}
use Rattle.c_typed_addressed.specs.Marks.{Marks, no_marks}
use Rattle.c_typed_addressed.specs.Statements.{addressed}
use Rattle.c_typed_definition.specs.Rooms.{Room, room_for, no_room}
use Rattle.c_typed_definition.specs.State.{State}
use Rattle.c_typed_definition.specs.Signatures.{parameter_type}
use Rattle.c_typed_definition.specs.Headings.{Text}

-- what a call of a function does: it stores the parameters that are memory locals, and then its statements follow
abbrev pub with_stores : List ADeclaration → SomeActions → SomeActions
with_stores [] body = body
with_stores (d ∷ ds) body = MoreActions (DeclareOf (d ∷ ds)) body

-- the memory locals of a function take at most `BLOCK_LIMIT` bytes; the place is the end of its body
unfoldable pub fits_stack : ℕ → Room → Result (Unit {0}) Fault
fits_stack at room = if nat_lt BLOCK_LIMIT room.length then bad at DataFull else Ok tt

abbrev pub end_in : Text → ℕ
end_in t = slice_index_or t.ends (length t.bodies) 0

abbrev pub body_of : Spec → AFunction → List CType → List ℕ → ℕ → SomeActions → ARoutine
body_of spec f locals registers block body = record {
  name = f.name;
  result = written spec f.stars;
  parameters =
      map parameter_type (params_in f.params);
  locals = locals;
  registers = registers;
  block = block;
  body = body;
  need = need_of locals block body;
}

-- the routine of a body, behind which this state is left
abbrev pub routine_of : Spec → AFunction → State → SomeActions → ARoutine
routine_of spec f s row = body_of spec f s.locals s.registers (aligned s.room.length 4) (with_stores s.room.stores row)

-- the variables of a definition to which `&` is applied
abbrev pub marks_in : AFunction → Option SomeItems → Marks
marks_in f None = no_marks
marks_in f (Some row) = addressed (params_in f.params) row

abbrev pub entered_function : AFunction → State → State
entered_function f s = record { scope = enter s.scope; locals = []; registers = []; room = room_for (marks_in f f.body); area = s.area }

abbrev pub left_function : State → State
left_function s = record { scope = leave s.scope; locals = []; registers = []; room = no_room; area = s.area }
