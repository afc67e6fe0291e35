-- What the VAX means, as a target.
use Rattle.std.specs.Prelude.{List}
use Rattle.vax_states.specs.tree_core.specs.declared.token.Tok.TheVariants as tok
use Rattle.vax_states.specs.tree_core.specs.declared.program.TreeProgram.{TreeProgram}
use Rattle.vax_states.specs.tree_meaning.specs.State.{State as Trees, Extent}
use Rattle.vax_templates.specs.sel_target.specs.Meaning.{Meaning}
use Rattle.vax_templates.specs.vax_core.specs.declared.register.Reg.TheVariants.{R0}
use Rattle.vax_templates.specs.vax_core.specs.declared.operand.Base.TheVariants as bases
use Rattle.vax_templates.specs.vax_core.specs.declared.operand.Operand.{Operand}
use Rattle.vax_templates.specs.vax_core.specs.declared.code.Instr.{Instr}
use Rattle.vax_templates.specs.vax_core.specs.Homes.{home, at_home}
use Rattle.vax_templates.specs.vax_core.specs.Registers.{operand_bits}
use Rattle.vax_templates.specs.vax_core.specs.Same.{same_operand}
use Rattle.vax_states.specs.vax_machine_live.specs.declared.frame.Frame.{Frame}
use Rattle.vax_states.specs.vax_machine.specs.State.{State, reg}
use Rattle.vax_states.specs.Agreeing.{Agrees, HasRoom}
use Rattle.vax_templates.specs.Filled.{alone, numbered, word_operand, slot_operand, filled_operand}
use Rattle.vax_templates.specs.FilledLines.{filled_line}
use Rattle.vax_templates.specs.FrameWords.{word_of}
use Rattle.vax_templates.specs.Found.{found, saved_found}
use Rattle.vax_target_meaning.specs.Reading.{reads, names}
use Rattle.vax_target_meaning.specs.Fitting.{fits, is_instr, CanWrite}
use Rattle.vax_target_meaning.specs.Running.{run}

abbrev pub stands : TreeProgram → Extent → List Extent → Trees → State → Type 0
stands q f fs t m = Agrees q.objects f fs t m

abbrev pub vax : Meaning Operand Instr State (List Frame)
vax = record {
  run = run;
  reads = reads;
  names = names;
  register = λ r. alone (bases.Reg (numbered r));
  slot = home;
  slot_deferred = at_home;
  local = word_operand;
  argument = slot_operand tok.Arg;
  registers = operand_bits;
  word = λ o. word_of o.base;
  same = same_operand;
  fits = fits;
  is_instr = is_instr;
  can_write = CanWrite;
  live = λ m. m.frames;
  answer = λ m. reg m R0;
  agrees = stands;
  has_room = HasRoom;
  effect = found;
  spill_effect = saved_found;
  instr = λ q l hs zero. filled_line q l.pieces hs zero;
  operand = λ q l hs. filled_operand q l.pieces hs;
}
