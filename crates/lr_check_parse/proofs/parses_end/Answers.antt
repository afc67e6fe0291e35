use Rattle.lr_check_parse.proofs.Existence.{parse_has_end}
use Rattle.lr_check_parse.proofs.parses_end.Goals as goal

pub returns : goal.returns
returns g c = parse_has_end g.A.Answers.answering
