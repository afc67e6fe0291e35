use Rattle.sel_parse_registers.proofs.Law as law
use Rattle.sel_parse_registers.proofs.registers_can_be_had.Goals as goal

pub returns : goal.returns
returns g c = law.never_lacks g.T.Templates.meaning g.met.T.Target.lawful
