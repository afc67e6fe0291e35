use Rattle.std.proofs.Common.{◌∙◌}
use Rattle.l32_machine.specs.Found.{found}
use Rattle.vax_machine.proofs.Places.{has_area_place}
use Rattle.l32_machine.proofs.label.Names.has_area_label.Goals as goal

pub returns : goal.returns
returns c = c.is_some.ensures ∙ has_area_place (found c.args.self.now.area) c.args.self.now.layout.now 0 c.args.name.now c.get.result c.args.self.now.area_places c.get.ensures
