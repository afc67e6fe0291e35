use Rattle.std.proofs.Common.{◌≡◌, rules, List, []}
use Rattle.std.proofs.lemmas.Fn.{fold_over, fronts}
use Rattle.std.proofs.lemmas.Iterator.{YieldsList-from_slice}
use borrow.Author.Tests.{tests}
use Rattle.vax_core.specs.declared.operand.Operand.{Operand}
use Rattle.vax_core.specs.declared.register.RegSet.{RegSet}
use Rattle.vax_core.specs.Registers.{operands_name, IsSetOf}
use Rattle.vax_core.proofs.RegisterLaws.{none_named, more_named}
use Rattle.vax_core.proofs.code.Instr.registers.Goals as goal

pub returns : goal.returns
returns c =
    let os = c.as_slice.result.now in
    let empty : c.empty.result.0 ≡ 0 = search rules in
    let first : IsSetOf c.empty.result.0 (operands_name []) = rw empty none_named in
    let same : c.args.self.now.operands ≡ os = search rules in
    rw same (fold_over fronts (λ y. y.now) _ (λ (front : List Operand) (set : RegSet). IsSetOf set.0 (operands_name front)) _
    (λ front set o more q h k. search (rules, tests, more_named, h)) _ os c.empty.result c.fold.result (YieldsList-from_slice os cc).runs first c.fold.ensures.ran)
