-- The filling of a line as the code holds its parts.
use Rattle.std.specs.Prelude.{List, Some}
use Rattle.tree_core.specs.declared.program.TreeProgram.{TreeProgram}
use Rattle.sel_target.specs.declared.attr.Attr.{Attr}
use Rattle.vax_core.specs.declared.operand.Operand.{Operand}
use Rattle.vax_core.specs.declared.code.Instr.{Instr}
use Rattle.vax_templates.specs.FilledLines.{filled_instruction}
use Rattle.vax_target_forms.specs.declared.instruction.LineInstruction.{LineInstruction}
use Rattle.vax_target_forms.specs.Views.{instruction_view}

abbrev pub filled_view : TreeProgram → List (Attr Operand) → Attr Operand → LineInstruction → Instr
filled_view p holes zero i = filled_instruction p holes zero (Some (instruction_view i))
