use Rattle.std.proofs.Common.{ap, ◌∙◌}
use Rattle.c_phrases.specs.UnitShapes.{param_of}
use Rattle.c_types.specs.Types.{is_scalar}
use Rattle.c_typed_scope.specs.Views.{scope}
use Rattle.c_typed_statements.proofs.Fresh.{parameter_free, parameter_scalar}
use Rattle.c_typed_statements.proofs.functions.declare_parameter.Goals as goal

pub add_parameter-requires : goal.add_parameter-requires
add_parameter-requires c = record {
  free = parameter_free c.args.p.now.name c.in-Some.name c.args.defines c.args.at (param_of c.args.p.now) (scope c.args.environment.now.blocks) c.in-Some.is c.in_ok-check_parameter.ensures;
  scalar = ap is_scalar c.parameter_type.ensures
      ∙ parameter_scalar c.args.p.now.name c.in-Some.name c.args.defines c.args.at (param_of c.args.p.now) (scope c.args.environment.now.blocks) c.in-Some.is c.in_ok-check_parameter.ensures;
}
