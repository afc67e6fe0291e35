-- The filling of a line as the code holds its parts.
use Rattle.std.specs.Prelude.{List, Some}
use Rattle.sel_target.specs.tree_core.specs.declared.program.TreeProgram.{TreeProgram}
use Rattle.sel_target.specs.declared.attr.Attr.{Attr}
use Rattle.l32_core.specs.declared.operand.Operand32.{Operand32}
use Rattle.l32_core.specs.declared.code.Instr32.{Instr32}
use Rattle.l32_templates.specs.FilledLines.{filled_instruction}
use Rattle.l32_target_forms.specs.declared.instruction.LineInstruction.{LineInstruction}
use Rattle.l32_target_forms.specs.Views.{instruction_view}

abbrev pub filled_view : TreeProgram → List (Attr Operand32) → Attr Operand32 → LineInstruction → Instr32
filled_view p holes zero i = filled_instruction p holes zero (Some (instruction_view i))
