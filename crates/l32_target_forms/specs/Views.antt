-- What the code reads of a line as the plain data of which the definitions speak.
use Rattle.std.specs.Prelude.{List}
use Rattle.std.specs.Global.{Vec}
use Rattle.l32_templates.specs.declared.form.Form.{Form}
use Rattle.l32_templates.specs.Instructions.{Instruction}
use Rattle.l32_templates.specs.Instructions as instruction
use Rattle.l32_target_forms.specs.declared.instruction.LineInstruction.{LineInstruction}
use Rattle.l32_target_forms.specs.declared.instruction.LineInstruction.TheVariants as lines

abbrev pub form_view : Form → Form
form_view f = f

abbrev pub forms_view : Vec Form → List Form
forms_view v = v.items

abbrev pub instruction_view : LineInstruction → Instruction
instruction_view (lines.Relation i fs) = instruction.Relation i fs.items
instruction_view lines.Call = instruction.Calls
instruction_view (lines.Operates op fs) = instruction.Operates op fs.items
