use Rattle.std.proofs.Common.{◌≡◌, [], length}
use Rattle.l32_templates.specs.Instructions.{forms_from}
use Rattle.l32_target_forms.proofs.instruction.forms.Given as goal

abbrev pub invariant-loop-left : goal.invariant-loop-left
invariant-loop-left l = forms_from 32 [] l.parts l.marks ≡ forms_from l.before l.read.items l.left l.rest

abbrev pub decreases-loop-left : goal.decreases-loop-left
decreases-loop-left l = length l.left
