use Rattle.sel_parse_law.proofs.Law as law
use Rattle.sel_parse_law.proofs.select_has_effect.Goals as goal

pub returns-clause-effect : goal.returns-clause-effect
returns-clause-effect g c = law.code_has_effect g.T.Templates.meaning g.met.T.Target.lawful

pub returns-clause-few : goal.returns-clause-few
returns-clause-few g c = law.uses_few_slots g.T.Templates.meaning g.met.T.Target.lawful

pub returns-clause-room : goal.returns-clause-room
returns-clause-room g c = law.has_room g.T.Templates.meaning g.met.T.Target.lawful

pub returns-clause-blocked : goal.returns-clause-blocked
returns-clause-blocked g c = law.never_blocks g.T.Templates.meaning g.met.T.Target.lawful

pub returns-clause-code : goal.returns-clause-code
returns-clause-code g c = law.trees_have_code g.T.Templates.meaning g.met.T.Target.lawful

pub returns-clause-root : goal.returns-clause-root
returns-clause-root g c = law.ends_tree
