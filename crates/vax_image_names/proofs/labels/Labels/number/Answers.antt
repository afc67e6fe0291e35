use Rattle.std.proofs.Common.{◌∙◌}
use Rattle.vax_image_names.specs.Found.{found}
use Rattle.vax_image_names.proofs.Placing.{number_is}
use Rattle.vax_image_names.proofs.labels.Labels.number.Goals as goal

pub returns : goal.returns
returns c = c.unwrap_or.ensures ∙ number_is (found c.args.self.now.numbers) c.args.self.now.items.now c.args.name.now c.get.result c.args.self.now.places c.get.ensures
