use Rattle.sel_parse_effect.proofs.Law as law
use Rattle.sel_parse_effect.proofs.selected_has_effect.Goals as goal

pub returns : goal.returns
returns g c = law.selected_has_effect g.T.Templates.meaning g.met.T.Target.lawful
