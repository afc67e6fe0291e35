use Rattle.sel_parse_ends.proofs.Law as law
use Rattle.sel_parse_ends.proofs.selections_end.Goals as goal

pub returns-clause-blocks : goal.returns-clause-blocks
returns-clause-blocks g c = law.never_blocks g.T.Templates.meaning

pub returns-clause-ends : goal.returns-clause-ends
returns-clause-ends g c = law.selections_end g.T.Templates.meaning g.met.T.Target.lawful
