use Rattle.vax_machine_live.proofs.OwnerLaws.{first_is, last_is}
use Rattle.vax_machine_live.proofs.frames.Frames.hold.Goals as goal

pub returns-then-is_control : goal.returns-then-is_control
returns-then-is_control c =
    first_is c.as_slice-frames.result.now c.self.inside.held.items c.args.self.now c.args.address c.args.count c.is_control.result c.self.inside.owners.items
    c.self.invariant.owned c.requires.some c.requires.few c.as_slice-frames.ensures.value c.self.view_is c.is_control.ensures c.if-is_control.true

pub returns-else-is_control : goal.returns-else-is_control
returns-else-is_control c =
    last_is c.as_slice-frames.result.now c.self.inside.held.items c.args.self.now c.args.address c.args.count c.is_control.result c.is_control-else-is_control.result c.self.inside.owners.items
    c.self.invariant.owned c.requires.some c.requires.few c.as_slice-frames.ensures.value c.self.view_is c.is_control.ensures c.if-is_control.false c.is_control-else-is_control.ensures
