-- What L32 means, as a target.
use Rattle.std.specs.Prelude.{List}
use Rattle.vax_target_meaning.specs.tree_core.specs.declared.token.Tok.TheVariants as tok
use Rattle.vax_target_meaning.specs.tree_core.specs.declared.program.TreeProgram.{TreeProgram}
use Rattle.vax_target_meaning.specs.tree_meaning.specs.State.{State as Trees, Extent}
use Rattle.l32_templates.specs.vax_templates.specs.sel_target.specs.Meaning.{Meaning}
use Rattle.vax_target_meaning.specs.Fitting.{CanWrite}
use Rattle.l32_templates.specs.l32_core.specs.declared.operand.Operand32.{Operand32}
use Rattle.l32_templates.specs.l32_core.specs.declared.operand.Operand32.TheVariants as operands
use Rattle.l32_templates.specs.l32_core.specs.declared.code.Instr32.{Instr32}
use Rattle.l32_templates.specs.l32_machine.specs.declared.frame.Frame32.{Frame32}
use Rattle.l32_templates.specs.l32_machine.specs.State.{State, reg}
use Rattle.l32_templates.specs.Homes.{home, at_home}
use Rattle.l32_templates.specs.Spelled.{operand_bits, word_of, same_operand}
use Rattle.l32_templates.specs.Filled.{word_operand, slot_operand, filled_operand}
use Rattle.l32_templates.specs.FilledLines.{filled_line}
use Rattle.l32_templates.specs.Found.{found, saved_found}
use Rattle.l32_target_meaning.specs.Reading.{reads, names}
use Rattle.l32_target_meaning.specs.Fitting.{fits, is_instr}
use Rattle.l32_target_meaning.specs.Running.{run}
use Rattle.l32_target_meaning.specs.Agreeing.{Agrees, HasRoom}

abbrev pub stands : TreeProgram → Extent → List Extent → Trees → State → Type 0
stands q f fs t m = Agrees q.objects f fs t m

abbrev pub l32 : Meaning Operand32 Instr32 State (List Frame32)
l32 = record {
  run = run;
  reads = reads;
  names = names;
  register = λ r. operands.Reg r;
  slot = home;
  slot_deferred = at_home;
  local = word_operand;
  argument = slot_operand tok.Arg;
  registers = operand_bits;
  word = word_of;
  same = same_operand;
  fits = fits;
  is_instr = is_instr;
  can_write = CanWrite;
  live = λ m. m.frames;
  answer = λ m. reg m 0;
  agrees = stands;
  has_room = HasRoom;
  effect = found;
  spill_effect = saved_found;
  instr = λ q l hs zero. filled_line q l.pieces hs zero;
  operand = λ q l hs. filled_operand q l.pieces hs;
}
