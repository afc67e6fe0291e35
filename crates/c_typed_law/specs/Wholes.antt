-- The end of a text: the second stack, and the number of main.
use Rattle.std.specs.Prelude.{◌≡◌, ℕ, Some, Ok, Err}
use Rattle.c_types.specs.declared.fault.TypeKind.TheVariants.{NoMain}
use Rattle.c_types.specs.Answers.{Fault}
use Rattle.c_typed_definition.specs.c_typed_operators.specs.Table.{NoRow}
use Rattle.c_typed_scope.specs.Layout.{Area}
use Rattle.c_typed_definition.specs.c_program.specs.Programs.{AProgram}
use Rattle.c_typed_definition.specs.c_typed_expressions.specs.Relations.{Joint, FirstOf}
use Rattle.c_typed_definition.specs.Headings.{Text}
use Rattle.c_typed_definition.specs.Texts.{any_block, stacked_if, main_of}

-- where some function has memory locals, the second stack lies behind the other objects
abbrev pub IsStacked : ℕ → Text → Area → Type 0
IsStacked end t a = stacked_if (any_block t.bodies) end t.state.area ≡ Ok a

-- a program has its objects, its functions, and the number of main
abbrev pub IsWhole : ℕ → Text → AProgram → Type 0
IsWhole end t p = Joint (IsStacked end t) (λ a. Joint (λ n. main_of t.bodies ≡ Some n)
    (λ n u. u ≡ record { objects = a.objects; routines = t.bodies; main = n })) p

abbrev pub WholeFault : Text → ℕ → Fault → Type 0
WholeFault t end f =
    FirstOf (IsStacked end t) (λ g. stacked_if (any_block t.bodies) end t.state.area ≡ Err g)
    (λ a. NoRow (λ n. main_of t.bodies ≡ Some n) end NoMain) f
