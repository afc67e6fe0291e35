-- The state that a machine is in.
use Rattle.vax_machine.specs.declared.machine.Machine.{Machine}
use Rattle.vax_machine.specs.State.{State}

abbrev pub state : Machine → State
state m = record {
  layout = m.program.layout.now;
  items = m.program.items.now;
  place = m.place;
  registers = m.registers;
  conditions = m.conditions;
  area = m.area.items;
  stack = m.stack.items;
  frames = m.frames;
  input = m.input.now;
  over = m.over;
}
