use Rattle.std.proofs.Common.{◌≡◌, drop}
use Rattle.c_phrases.specs.UnitShapes.{param_list}
use Rattle.c_typed_addressed.specs.Statements.{in_parameters}
use Rattle.c_typed_addressed.specs.Views.{searched}
use Rattle.c_typed_addressed.proofs.statements.parameters.Given as goal

abbrev pub invariant-loop-p : goal.invariant-loop-p
invariant-loop-p l = in_parameters (param_list (drop l.p-index l.ps)) (searched l.state) ≡ in_parameters (param_list l.ps) (searched l.fn.state)
