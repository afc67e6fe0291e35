use Rattle.std.proofs.Common.{◌∙◌}
use Rattle.vax_image_names.specs.Found.{found}
use Rattle.vax_image_names.proofs.Placing.{label_is}
use Rattle.vax_image_names.proofs.names.Names.has_label.Goals as goal

pub returns : goal.returns
returns c = c.is_some.ensures ∙ label_is (found c.args.self.now.code) c.args.self.now.items.now 0 c.args.name.now c.get.result c.args.self.now.code_places c.get.ensures
