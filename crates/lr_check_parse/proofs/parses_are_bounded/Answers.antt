use Rattle.lr_check_parse.proofs.Bounds.{parse_bounded}
use Rattle.lr_check_parse.proofs.parses_are_bounded.Goals as goal

pub returns : goal.returns
returns g c = parse_bounded g.A.Answers.answering
