use Rattle.std.proofs.Common.{◌≡◌, ◌+◌, ◌*◌, ◌<◌, drop, map}
use Rattle.c_phrases.specs.Shapes.{exp_list}
use Rattle.c_types.specs.Types.{size_of}
use Rattle.c_program.specs.Statements.{declaration}
use Rattle.c_typed_expressions.specs.Calls.{count}
use Rattle.c_typed_objects.specs.Views.{state}
use Rattle.c_typed_definition.specs.Automatics.{type_stores}
use Rattle.c_typed_objects.proofs.automatic.store_list.Given as goal

abbrev pub invariant-loop-e : goal.invariant-loop-e
invariant-loop-e l =
    (type_stores l.functions.names l.functions.signatures.items l.of l.next (exp_list (drop l.e-index l.es)) (map declaration l.done.items) (state l.environment)
    ≡ type_stores l.functions.names l.functions.signatures.items l.of l.offset (exp_list l.es) (map declaration l.fn.done.items) (state l.fn.environment))
    × (l.next + count (exp_list (drop l.e-index l.es)) * size_of l.of < 4294967296)
