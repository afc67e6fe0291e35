use Rattle.lr_check_parse.proofs.OneWay.{parse_one_way}
use Rattle.lr_check_parse.proofs.parses_end_one_way.Goals as goal

pub returns : goal.returns
returns g c = parse_one_way g.A.Answers.answering
