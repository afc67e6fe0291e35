use Rattle.std.proofs.Common.{◌∙◌}
use Rattle.l32_machine.specs.Found.{found}
use Rattle.l32_machine.proofs.Places.{has_place}
use Rattle.l32_machine.proofs.label.Names.has_label.Goals as goal

pub returns : goal.returns
returns c = c.is_some.ensures ∙ has_place (found c.args.self.now.code) c.args.self.now.items.now 0 c.args.name.now c.get.result c.args.self.now.code_places c.get.ensures
