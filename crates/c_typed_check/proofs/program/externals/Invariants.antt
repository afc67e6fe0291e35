use Rattle.std.proofs.Common.{◌≡◌, drop}
use Rattle.c_phrases.specs.UnitShapes.{externals_of}
use Rattle.c_typed_statements.specs.Views.{text}
use Rattle.c_typed_statements.specs.c_typed_definition.specs.Texts.{type_externals}
use Rattle.c_typed_check.proofs.program.externals.Given as goal

abbrev pub invariant-loop-e : goal.invariant-loop-e
invariant-loop-e l = type_externals l.functions.names l.functions.signatures.items (externals_of (drop l.e-index l.es)) (text l.builder)
    ≡ type_externals l.functions.names l.functions.signatures.items (externals_of l.es) (text l.fn.builder)
