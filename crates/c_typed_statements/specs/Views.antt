-- What the code holds while it reads a text, as plain data.
use Rattle.std.specs.Prelude.{map, Result, Ok}
use Rattle.c_phrases.specs.declared.tree.Function.{Function}
use Rattle.c_phrases.specs.Units.{AFunction}
use Rattle.c_phrases.specs.UnitShapes.{params_of, body_of}
use Rattle.c_program.specs.Programs.{routine}
use Rattle.c_typed_objects.specs.Views.{state}
use Rattle.c_types.specs.Answers.{Fault, ◌>>=◌}
use Rattle.c_program.specs.Statements.{SomeActions}
use Rattle.c_typed_definition.specs.State.{State}
use Rattle.c_typed_definition.specs.Statements.{left}
use Rattle.c_typed_definition.specs.Headings.{Text}
use Rattle.c_typed_statements.specs.declared.functions.Builder.{Builder}

abbrev pub text : Builder → Text
text b = record { state = state b.environment; declared = b.declared.items; bodies = map routine b.routines.items; ends = b.ends }

abbrev pub function_of : Function → AFunction
function_of f = record { stars = f.stars; name = f.name; at = f.at; opened = f.«open»; params = params_of f.params; body = body_of f.body }

-- behind a block its names are gone
abbrev pub scoped : Result (SomeActions × State) Fault → Result (SomeActions × State) Fault
scoped m = m >>= λ r. Ok (r.0, left r.1)
