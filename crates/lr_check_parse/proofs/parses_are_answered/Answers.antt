use Rattle.lr_check_parse.proofs.Sources.{parse_answered}
use Rattle.lr_check_parse.proofs.parses_are_answered.Goals as goal

pub returns : goal.returns
returns g c = parse_answered g.A.Answers.answering
