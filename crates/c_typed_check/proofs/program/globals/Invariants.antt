use Rattle.std.proofs.Common.{◌≡◌, drop}
use Rattle.c_phrases.specs.UnitShapes.{declarators_of}
use Rattle.c_typed_objects.specs.Views.{state}
use Rattle.c_typed_statements.specs.c_typed_definition.specs.Texts.{type_globals}
use Rattle.c_typed_check.proofs.program.globals.Given as goal

abbrev pub invariant-loop-d : goal.invariant-loop-d
invariant-loop-d l = type_globals l.functions.names l.functions.signatures.items l.spec (declarators_of (drop l.d-index l.ds)) (state l.environment)
    ≡ type_globals l.functions.names l.functions.signatures.items l.spec (declarators_of l.ds) (state l.fn.environment)
