use Rattle.std.proofs.Common.{◌-◌, ◌∙◌, List, length, ap, sym}
use Rattle.std.specs.Prelude.{slice_get}
use Rattle.vax_core.specs.declared.operand.Operand.{Operand}
use Rattle.vax_codes.specs.Testing.{is_last}
use Rattle.vax_codes.proofs.Testing.{operand_last}
use Rattle.vax_codes.proofs.needless_test.is_last.Goals as goal

pub returns-in-Some : goal.returns-in-Some
returns-in-Some c =
    c.same.ensures.found
    ∙ ap (is_last c.args.operand.now) (c.in-Some.ensures.value ∙ ap (λ (os : List Operand). slice_get os (length os - 1)) c.as_slice.ensures ∙ sym (operand_last c.args.writer.now.operands))
