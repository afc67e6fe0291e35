use Rattle.std.proofs.Common.{◌≡◌, drop, map, []}
use Rattle.c_phrases.specs.UnitShapes.{declarators_of}
use Rattle.c_program.specs.Statements.{declaration}
use Rattle.c_typed_objects.specs.Views.{state}
use Rattle.c_typed_definition.specs.Automatics.{type_locals}
use Rattle.c_typed_objects.proofs.declaration.locals.Given as goal

abbrev pub invariant-loop-d : goal.invariant-loop-d
invariant-loop-d l = type_locals l.functions.names l.functions.signatures.items l.storage l.spec (declarators_of (drop l.d-index l.ds)) (map declaration l.done.items) (state l.environment)
    ≡ type_locals l.functions.names l.functions.signatures.items l.storage l.spec (declarators_of l.ds) [] (state l.fn.environment)
