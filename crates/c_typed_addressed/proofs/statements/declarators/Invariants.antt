use Rattle.std.proofs.Common.{◌≡◌, drop}
use Rattle.c_phrases.specs.UnitShapes.{declarators_of}
use Rattle.c_typed_addressed.specs.Statements.{in_declarators}
use Rattle.c_typed_addressed.specs.Views.{searched}
use Rattle.c_typed_addressed.proofs.statements.declarators.Given as goal

abbrev pub invariant-loop-d : goal.invariant-loop-d
invariant-loop-d l = in_declarators l.storage (declarators_of (drop l.d-index l.ds)) (searched l.state) ≡ in_declarators l.storage (declarators_of l.ds) (searched l.fn.state)
