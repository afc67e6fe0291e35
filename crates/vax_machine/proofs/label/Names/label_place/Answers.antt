use Rattle.std.proofs.Common.{◌∙◌}
use Rattle.vax_machine.specs.Found.{found}
use Rattle.vax_machine.proofs.Places.{place_is}
use Rattle.vax_machine.proofs.label.Names.label_place.Goals as goal

pub returns : goal.returns
returns c = c.unwrap_or.ensures ∙ place_is (found c.args.self.now.code) c.args.self.now.items.now c.args.name.now c.get.result c.args.self.now.code_places c.get.ensures
