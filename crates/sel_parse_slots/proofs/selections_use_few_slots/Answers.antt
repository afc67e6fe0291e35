use Rattle.sel_parse_slots.proofs.Law as law
use Rattle.sel_parse_slots.proofs.selections_use_few_slots.Goals as goal

pub returns-clause-few : goal.returns-clause-few
returns-clause-few g c = law.uses_few_slots g.T.Templates.meaning g.met.T.Target.lawful

pub returns-clause-room : goal.returns-clause-room
returns-clause-room g c = law.has_room g.T.Templates.meaning g.met.T.Target.lawful
