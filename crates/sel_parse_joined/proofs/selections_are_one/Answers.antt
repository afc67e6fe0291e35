use Rattle.sel_parse_joined.proofs.Law as law
use Rattle.sel_parse_joined.proofs.selections_are_one.Goals as goal

pub returns-clause-code : goal.returns-clause-code
returns-clause-code g c = law.same_code g.T.Templates.meaning g.met.T.Target.lawful

pub returns-clause-full : goal.returns-clause-full
returns-clause-full g c = law.same_full g.T.Templates.meaning g.met.T.Target.lawful
