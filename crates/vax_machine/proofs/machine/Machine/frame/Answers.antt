use Rattle.std.proofs.Common.{◌≡◌, ◌-◌, ◌+◌, ◌%◌, ◌≤◌, arith, rules, length}
use Rattle.std.specs.Int.RustNames.{count_ones}
use Rattle.vax_machine.specs.View.{state}
use Rattle.vax_machine.proofs.Room.{IsWhole, has_room}
use Rattle.vax_machine.proofs.machine.Machine.frame.Goals as goal

pub enter-requires : goal.enter-requires
enter-requires c =
    let top = c.args.ap - c.args.ap % 4 in
    let registers : length c.args.self.now.registers ≡ 15 = search rules in
    let area : length c.args.self.now.area.items ≤ 1048576 = search rules in
    let whole : IsWhole (state c.args.self.now) = record { registers = registers; area = area } in
    has_room (state c.args.self.now) (state c.set_register.new.self) (state c.reserve_all.new.self) top (count_ones c.in-Some.mask + 5) whole (omega (arith, c.ranges.ap)) (omega arith)
    (omega arith) c.in_ok-set_register.ensures c.in_ok-reserve_all.ensures
