use Rattle.sel_parse_lines.proofs.Filling.{selections_are_filled}
use Rattle.sel_parse_lines.proofs.Words.{selections_use_few_words}
use Rattle.sel_parse_lines.proofs.selections_are_filled.Goals as goal

pub returns-clause-filled : goal.returns-clause-filled
returns-clause-filled g c = selections_are_filled g.T.Templates.meaning

pub returns-clause-few : goal.returns-clause-few
returns-clause-few g c = selections_use_few_words g.T.Templates.meaning
