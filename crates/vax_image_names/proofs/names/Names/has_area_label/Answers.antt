use Rattle.std.proofs.Common.{◌∙◌}
use Rattle.vax_image_names.specs.Found.{found}
use Rattle.vax_image_names.proofs.Placing.{area_label_is}
use Rattle.vax_image_names.proofs.names.Names.has_area_label.Goals as goal

pub returns : goal.returns
returns c = c.is_some.ensures ∙ area_label_is (found c.args.self.now.area) c.args.self.now.layout.now 0 c.args.name.now c.get.result c.args.self.now.area_places c.get.ensures
