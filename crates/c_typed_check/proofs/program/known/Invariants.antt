use Rattle.std.proofs.Common.{◌≡◌, drop}
use Rattle.c_phrases.specs.UnitShapes.{externals_of}
use Rattle.c_typed_statements.specs.c_typed_definition.specs.Signatures.{known, known_from}
use Rattle.c_typed_check.specs.Functions.{functions_of}
use Rattle.c_typed_check.proofs.program.known.Given as goal

abbrev pub invariant-loop-e : goal.invariant-loop-e
invariant-loop-e l = known_from (externals_of (drop l.e-index l.externals)) (functions_of l.functions) ≡ known (externals_of l.externals)
