-- The state that a machine is in.
use Rattle.l32_machine.specs.declared.machine.Machine32.{Machine32}
use Rattle.l32_machine.specs.State.{State}

abbrev pub state : Machine32 → State
state m = record {
  layout = m.program.layout.now;
  items = m.program.items.now;
  place = m.place;
  general = m.general;
  fp = m.fp;
  sp = m.sp;
  area = m.area.items;
  stack = m.stack.items;
  frames = m.frames.items;
  input = m.input.now;
  over = m.over;
}
