-- Where the objects lie.
-- C leaves their places open. What is chosen here is the rule itself, which the relations of typing cite: each object lies at the next
-- multiple of its element's size behind the others.
use Rattle.std.specs.Prelude.{ℕ, ◌+◌, ◌-◌, ◌*◌, ◌/◌, Bool, List, [], ◌∷◌, ◌++◌, length, nat_lt, Result, Ok, if◌then◌else◌}
use Rattle.std.specs.Fmt.{decimal}
use Rattle.tree_core.specs.declared.program.Object.{Object}
use Rattle.c_types.specs.declared.fault.TypeKind.TheVariants.{DataFull}
use Rattle.c_types.specs.Answers.{Fault, bad, ◌>>=◌}
use Rattle.c_types.specs.Typed.{AnExpression, LiteralAt}

-- The objects so far, the end of the last, and how many literals and static locals have one. While a length is
-- measured, literals take no room.
pub record Area : Type 0 where
  pub objects : List Object
  pub end : ℕ
  pub literals : ℕ
  pub statics : ℕ
  pub measuring : Bool

-- the next multiple of an element's size
unfoldable pub aligned : ℕ → ℕ → ℕ
aligned end n = (end + (n - 1)) / n * n

abbrev pub added : Object → ℕ → Area → Area
added o end a = record { objects = a.objects ++ o ∷ []; end = end; literals = a.literals; statics = a.statics; measuring = a.measuring }

abbrev pub with_object : List ℕ → ℕ → ℕ → List ℕ → Area → Area
with_object label align size bytes a = added (record {
  label = label;
  address = aligned a.end align;
  size = size;
  align = align;
  bytes = bytes;
  links = [];
}) (aligned a.end align + size) a

-- An object behind the others, whose end lies at most `AREA_LIMIT` bytes past address `AREA_START`; and its number.
unfoldable pub placed : ℕ → List ℕ → ℕ → ℕ → List ℕ → Area → Result (ℕ × Area) Fault
placed at label align size bytes a =
    if nat_lt 1114112 (aligned a.end align + size) then bad at DataFull else Ok (length a.objects, with_object label align size bytes a)

abbrev pub one_more_literal : Area → Area
one_more_literal a = record { objects = a.objects; end = a.end; literals = a.literals + 1; statics = a.statics; measuring = a.measuring }

-- one byte a character, and a closing zero
unfoldable pub literal : ℕ → List ℕ → Area → Result (AnExpression × Area) Fault
literal at bytes a =
    if a.measuring then Ok (LiteralAt 0 (length bytes + 1), a)
    else placed at (83 ∷ decimal a.literals) 1 (length bytes + 1) (bytes ++ 0 ∷ []) a >>= λ r.
    Ok (LiteralAt r.0 (length bytes + 1), one_more_literal r.1)
