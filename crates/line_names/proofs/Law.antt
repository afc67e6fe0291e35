-- The law, field by field.
use Rattle.line_names.specs.Laws.{NamesAreSpelled}
use Rattle.line_names.proofs.Naming.{label_spelled, function_spelled, pieces_of_line, label_allowed, callee_allowed}

pub names_are_spelled : NamesAreSpelled
names_are_spelled = record {
  label = label_spelled;
  function = λ q n all. function_spelled q.functions n _ all;
  label_allowed = λ register right ps fits named. label_allowed register right ps (pieces_of_line register right ps fits) named;
  callee_allowed = λ register right ps fits named. callee_allowed register right ps (pieces_of_line register right ps fits) named;
}
