use Rattle.std.proofs.Common.{List, sym, ap, subst}
use Rattle.l32_core.specs.declared.operand.Operand32.{Operand32}
use Rattle.l32_core.specs.Ops.{Row}
use Rattle.l32_machine.specs.declared.program.Links.{Links}
use Rattle.l32_machine.specs.Tables.{HasNumbers}
use Rattle.l32_machine.proofs.Numbers.{has_numbers}
use Rattle.l32_machine.proofs.machine.Machine32.instruction.Goals as goal

pub evaluate_all-requires : goal.evaluate_all-requires
evaluate_all-requires c =
    let i = c.args.instr.now in
    let layout = c.args.self.now.program.layout.now in
    let parts = c.shape.result.parts.now in
    let numbers = c.args.links.numbers in
    subst (λ (os : List Operand32). HasNumbers layout parts os numbers) (sym c.as_slice.ensures)
    (has_numbers layout i.op i.operands parts numbers (ap (λ (r : Row). r.parts) c.shape.ensures) (ap (λ (l : Links). l.numbers) c.requires))

pub act_on-requires : goal.act_on-requires
act_on-requires c = ap (λ (l : Links). l.target) c.requires
