use Rattle.sel_parse_stands.proofs.Law as laws
use Rattle.sel_parse_stands.proofs.entries_are_saved.Goals as goal

pub returns-clause-saved : goal.returns-clause-saved
returns-clause-saved g c = laws.entries_are_saved g.T.Templates.meaning g.met.T.Target.lawful

pub returns-clause-reloaded : goal.returns-clause-reloaded
returns-clause-reloaded g c = laws.registers_are_reloaded g.T.Templates.meaning g.met.T.Target.lawful
