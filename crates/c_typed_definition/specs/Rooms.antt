-- The block of a function's memory locals, while its declarations are read.
-- This is how the code computes it; the rules of typing are the relations of c_typed_law.
use Rattle.std.specs.Prelude.{ℕ, ◌+◌, min, Bool, false, List, [], ◌∷◌, ◌++◌, slice_index_or}
use Rattle.c_types.specs.declared.types.CType.{CType}
use Rattle.c_types.specs.declared.typed.Variable.TheVariants as variables
use Rattle.c_types.specs.Types.{size_of}
use Rattle.c_types.specs.Typed.{ReadOf, VariableAt}
use Rattle.c_program.specs.Statements.{ADeclaration, StoreOf}
use Rattle.c_typed_addressed.specs.c_typed_scope.specs.Layout.{aligned}
use Rattle.c_typed_addressed.specs.Marks.{Marks, no_marks}

-- To which of its variables the function applies `&`, how many automatic locals it has declared, the bytes of its memory locals so far,
-- which count to one past their limit, and the stores of the parameters among them.
pub record Room : Type 0 where
  pub marks : Marks
  pub declared : ℕ
  pub length : ℕ
  pub stores : List ADeclaration

abbrev pub room_for : Marks → Room
room_for marks = record { marks = marks; declared = 0; length = 0; stores = [] }

abbrev pub no_room : Room
no_room = room_for no_marks

-- whether `&` is applied to the next automatic local, or to a parameter
abbrev pub is_next_addressed : Room → Bool
is_next_addressed r = slice_index_or r.marks.locals r.declared false

abbrev pub is_parameter_addressed : ℕ → Room → Bool
is_parameter_addressed n r = slice_index_or r.marks.parameters n false

-- one more automatic local is declared
abbrev pub one_declared : Room → Room
one_declared r = record { marks = r.marks; declared = r.declared + 1; length = r.length; stores = r.stores }

-- memory for so many bytes, at the next multiple of an element's size
abbrev pub offset_in : ℕ → Room → ℕ
offset_in align r = aligned (min r.length 262145) align

abbrev pub taking : ℕ → ℕ → Room → Room
taking align size r = record {
  marks = r.marks;
  declared = r.declared;
  length = min (offset_in align r + size) 262145;
  stores = r.stores;
}

-- a parameter is stored there when a call begins
abbrev pub storing : ADeclaration → Room → Room
storing d r = record { marks = r.marks; declared = r.declared; length = r.length; stores = r.stores ++ d ∷ [] }

abbrev pub parameter_store : CType → ℕ → ℕ → ADeclaration
parameter_store t n offset = StoreOf t offset (ReadOf (VariableAt t (variables.Parameter n)))

abbrev pub with_parameter_in : CType → ℕ → Room → Room
with_parameter_in t n r = storing (parameter_store t n (offset_in (size_of t) r)) (taking (size_of t) (size_of t) r)
