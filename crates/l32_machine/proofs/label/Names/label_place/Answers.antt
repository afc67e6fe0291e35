use Rattle.std.proofs.Common.{◌∙◌}
use Rattle.l32_machine.specs.Found.{found}
use Rattle.l32_machine.proofs.Places.{place_is}
use Rattle.l32_machine.proofs.label.Names.label_place.Goals as goal

pub returns : goal.returns
returns c = c.unwrap_or.ensures ∙ place_is (found c.args.self.now.code) c.args.self.now.items.now c.args.name.now c.get.result c.args.self.now.code_places c.get.ensures
