use Rattle.std.proofs.Common.{◌≡◌, drop}
use Rattle.c_phrases.specs.UnitShapes.{param_list}
use Rattle.c_typed_objects.specs.Views.{state}
use Rattle.c_typed_definition.specs.Texts.{type_parameters}
use Rattle.c_typed_statements.proofs.functions.declare_parameters.Given as goal

abbrev pub invariant-loop-number : goal.invariant-loop-number
invariant-loop-number l = type_parameters l.functions.names l.functions.signatures.items l.defines l.at (param_list (drop l.number l.params)) l.number (state l.environment)
    ≡ type_parameters l.functions.names l.functions.signatures.items l.defines l.at (param_list l.params) 0 (state l.fn.environment)
