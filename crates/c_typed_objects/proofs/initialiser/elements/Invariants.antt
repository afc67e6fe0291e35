use Rattle.std.proofs.Common.{◌≡◌, drop}
use Rattle.c_phrases.specs.Shapes.{exp_list}
use Rattle.c_typed_scope.specs.Views.{scope, area, filled_so_far}
use Rattle.c_typed_definition.specs.Initialisers.{type_elements}
use Rattle.c_typed_objects.proofs.initialiser.elements.Given as goal

abbrev pub invariant-loop-e : goal.invariant-loop-e
invariant-loop-e l = type_elements l.functions.names l.functions.signatures.items (scope l.blocks) l.to (exp_list (drop l.e-index l.es)) (filled_so_far l.contents, area l.layout)
    ≡ type_elements l.functions.names l.functions.signatures.items (scope l.blocks) l.to (exp_list l.es) (filled_so_far l.fn.contents, area l.fn.layout)
