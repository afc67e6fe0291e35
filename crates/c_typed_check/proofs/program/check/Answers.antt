use Rattle.c_phrases.specs.UnitShapes.{unit_of}
use Rattle.c_program.specs.Programs.{program}
use Rattle.c_typed_law.proofs.Answers.{text_found, text_only, text_refused, text_first}
use Rattle.c_typed_check.proofs.program.check.Goals as goal

pub returns : goal.returns
returns c = record {
  computed = c.typed_unit.ensures.computed;
  found = text_found (λ p. program p.held) c.typed_unit.result (unit_of c.args.ast.now).externals c.args.ast.now.body_ends (unit_of c.args.ast.now).end c.typed_unit.ensures.computed;
  only = text_only (λ p. program p.held) c.typed_unit.result (unit_of c.args.ast.now).externals c.args.ast.now.body_ends (unit_of c.args.ast.now).end c.typed_unit.ensures.computed;
  refused = text_refused (λ p. program p.held) c.typed_unit.result (unit_of c.args.ast.now).externals c.args.ast.now.body_ends (unit_of c.args.ast.now).end c.typed_unit.ensures.computed;
  first = text_first (λ p. program p.held) c.typed_unit.result (unit_of c.args.ast.now).externals c.args.ast.now.body_ends (unit_of c.args.ast.now).end c.typed_unit.ensures.computed;
}
