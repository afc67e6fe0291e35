-- What is in scope and laid out while declarations are read; a variable's object, its label and its entry.
-- This is how the code computes it; the rules of typing are the relations of c_typed_law.
use Rattle.std.specs.Prelude.{ℕ, ◌+◌, Bool, true, false, List, [], ◌∷◌, ◌++◌, length, Option, Some, None, Result, Ok}
use Rattle.std.specs.Fmt.{decimal}
use Rattle.tree_core.specs.Names.{function_label}
use Rattle.c_types.specs.declared.types.CType.{CType}
use Rattle.c_types.specs.declared.types.CType.TheVariants as types
use Rattle.c_types.specs.declared.typed.Variable.{Variable}
use Rattle.c_types.specs.declared.typed.Variable.TheVariants as variables
use Rattle.c_types.specs.Answers.{Fault, ◌>>=◌}
use Rattle.c_typed_addressed.specs.c_typed_scope.specs.declared.entry.Entry.{Entry}
use Rattle.c_typed_addressed.specs.c_typed_scope.specs.declared.entry.Entry.TheVariants as entries
use Rattle.c_typed_addressed.specs.c_typed_scope.specs.Scopes.{Scope, with_name}
use Rattle.c_typed_addressed.specs.c_typed_scope.specs.Layout.{Area, placed}
use Rattle.c_typed_addressed.specs.c_typed_scope.specs.Contents.{Filled}
use Rattle.c_typed_definition.specs.Rooms.{Room, one_declared, taking}

-- what is in scope and laid out while a function is read; of its locals so far that are no memory locals the types, and the numbers of
-- those that are declared `register`; and the block of its memory locals
pub record State : Type 0 where
  pub scope : Scope
  pub locals : List CType
  pub registers : List ℕ
  pub room : Room
  pub area : Area

abbrev pub with_area : Area → State → State
with_area a s = record { scope = s.scope; locals = s.locals; registers = s.registers; room = s.room; area = a }

abbrev pub named_state : List ℕ → Entry → State → State
named_state n e s = record { scope = with_name n e s.scope; locals = s.locals; registers = s.registers; room = s.room; area = s.area }

abbrev pub with_room : Room → State → State
with_room r s = record { scope = s.scope; locals = s.locals; registers = s.registers; room = r; area = s.area }

abbrev pub measuring : Bool → Area → Area
measuring b a = record { objects = a.objects; end = a.end; literals = a.literals; statics = a.statics; measuring = b }

abbrev pub one_more_static : Area → Area
one_more_static a = record { objects = a.objects; end = a.end; literals = a.literals; statics = a.statics + 1; measuring = a.measuring }

-- the variable of an object, and its label
abbrev pub variable_of : Bool → ℕ → Variable
variable_of true n = variables.Static n
variable_of false n = variables.Global n

abbrev pub label_of : Bool → List ℕ → Area → List ℕ
label_of true name a = 84 ∷ decimal a.statics
label_of false name a = function_label name

abbrev pub counted_static : Bool → Area → Area
counted_static true a = one_more_static a
counted_static false a = a

-- an array's entry holds the type of its first element's address
abbrev pub array_entry : Option CType → Variable → ℕ → Entry
array_entry None v size = entries.Array types.Void v size
array_entry (Some p) v size = entries.Array p v size

-- a variable's object, and the count of static locals
unfoldable pub laid : Bool → ℕ → List ℕ → ℕ → ℕ → Area → Result (ℕ × Area) Fault
laid is_static at name align size a = placed at (label_of is_static name a) align size [] a >>= λ r. Ok (r.0, counted_static is_static r.1)

abbrev pub text_contents : Option (List ℕ) → Filled
text_contents None = record { bytes = []; links = [] }
text_contents (Some b) = record { bytes = b; links = [] }

abbrev pub with_local : CType → List ℕ → State → State
with_local t n s = record {
  scope = with_name n (entries.Variable t (variables.Automatic (length s.locals))) s.scope;
  locals =
      s.locals ++ t ∷ [];
  registers = s.registers;
  room = one_declared s.room;
  area = s.area;
}

-- a memory local of so many bytes is in scope
abbrev pub with_memory : ℕ → ℕ → List ℕ → Entry → State → State
with_memory align size n e s = with_room (one_declared (taking align size s.room)) (named_state n e s)

-- the next local is declared `register`
abbrev pub with_register : State → State
with_register s = record {
  scope = s.scope;
  locals = s.locals;
  registers = s.registers ++ length s.locals ∷ [];
  room = s.room;
  area = s.area;
}
