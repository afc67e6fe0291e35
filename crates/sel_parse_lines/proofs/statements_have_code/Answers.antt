use Rattle.sel_parse_lines.proofs.Ending as law
use Rattle.sel_parse_lines.proofs.statements_have_code.Goals as goal

pub returns : goal.returns
returns g c = law.statements_have_code g.T.Templates.meaning g.met.T.Target.lawful
