-- What the toy machine means, as a target.
use Rattle.std.specs.Prelude.{ℕ, true}
use Rattle.sel_target.specs.Meaning.{Meaning}
use Rattle.sel_toy_machine.specs.declared.operand.Operand.{Operand}
use Rattle.sel_toy_machine.specs.declared.operand.Operand.TheVariants as operand
use Rattle.sel_toy_machine.specs.declared.operand.Instr.{Instr}
use Rattle.sel_toy_machine.specs.Machine.{Machine, in_register, Stands, long, reads, names, registers, word_of, same, fits}
use Rattle.sel_toy_machine.specs.Templates.{effect}
use Rattle.sel_toy_machine.specs.Spills.{spill_effect}
use Rattle.sel_toy_machine.specs.Filling.{instr, operand_filled}
use Rattle.sel_toy_machine.specs.Running.{run}

abbrev pub toy : Meaning Operand Instr Machine ℕ
toy = record {
  run = run;
  reads = reads;
  names = names;
  register = operand.Register;
  slot = operand.Word;
  slot_deferred = operand.Deferred;
  local = operand.Word;
  argument = operand.Argument;
  registers = registers;
  word = word_of;
  same = same;
  fits = fits;
  is_instr = λ i. true;
  can_write = λ q. Unit {0};
  live = λ m. m.callers;
  answer = λ m. long (in_register m 0);
  agrees = Stands;
  has_room = λ m. Unit {0};
  effect = effect;
  spill_effect = spill_effect;
  instr = instr;
  operand = operand_filled;
}
