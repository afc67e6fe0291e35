-- The law, field by field.
use Rattle.judging_laws.specs.Laws.{JudgingGoesByLines}
use Rattle.judging_laws.proofs.Judged.{template_once, some_line}

pub judging_goes_by_lines : JudgingGoesByLines
judging_goes_by_lines = record {
  divides_once = λ of each s holes k ls g e is. template_once of s holes each k ls g e is;
  some_line = λ of none s holes ls g e is. some_line of s holes none ls g e is;
}
