-- To which variables of a function `&` is applied, as far as its text is looked through.
use Rattle.std.specs.Prelude.{ℕ, Bool, true, List, [], Option, Some, slice_set}
use Rattle.c_types.specs.declared.typed.Variable.TheVariants as variables
use Rattle.c_typed_scope.specs.declared.entry.Entry.{Entry}
use Rattle.c_typed_scope.specs.declared.entry.Entry.TheVariants as entries

-- whether it is applied to each parameter, and to each automatic local in the order of their declarations
pub record Marks : Type 0 where
  pub parameters : List Bool
  pub locals : List Bool

abbrev pub no_marks : Marks
no_marks = record { parameters = []; locals = [] }

abbrev pub set : List Bool → ℕ → List Bool
set found n = slice_set found n true

-- `&` is applied to what a name stands for
abbrev pub marked : Option Entry → Marks → Marks
marked (Some (entries.Variable t (variables.Automatic n))) m = record { parameters = m.parameters; locals = set m.locals n }
marked (Some (entries.Variable t (variables.Parameter n))) m = record { parameters = set m.parameters n; locals = m.locals }
marked _ m = m
