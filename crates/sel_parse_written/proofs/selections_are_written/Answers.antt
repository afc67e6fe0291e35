use Rattle.sel_parse_written.proofs.Law as law
use Rattle.sel_parse_written.proofs.selections_are_written.Goals as goal

pub returns-clause-passes : goal.returns-clause-passes
returns-clause-passes g c = law.selections_pass g.T.Templates.meaning g.met.T.Target.lawful

pub returns-clause-written : goal.returns-clause-written
returns-clause-written g c = law.selections_are_written g.T.Templates.meaning g.met.T.Target.lawful

pub returns-clause-low : goal.returns-clause-low
returns-clause-low g c = law.selections_use_low_words g.T.Templates.meaning g.met.T.Target.lawful
