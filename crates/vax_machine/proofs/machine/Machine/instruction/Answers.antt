use Rattle.std.proofs.Common.{List, sym, ap, subst, ◌∙◌}
use Rattle.vax_core.specs.declared.operand.Operand.{Operand}
use Rattle.vax_core.specs.declared.code.CodeItem.{CodeItem}
use Rattle.vax_machine.specs.declared.program.Links.{Links}
use Rattle.vax_machine.specs.Rows.{Doing}
use Rattle.vax_machine.specs.Tables.{target_of, HasNumbers}
use Rattle.vax_machine.proofs.Keeping.{all_keep}
use Rattle.vax_machine.proofs.Numbers.{has_numbers}
use Rattle.vax_machine.proofs.machine.Machine.instruction.Goals as goal

pub evaluate_all-requires : goal.evaluate_all-requires
evaluate_all-requires c =
    let i = c.args.instr.now in
    let layout = c.args.self.now.program.layout.now in
    let kinds = c.args.row.kinds.now in
    let numbers = c.args.links.numbers in
    subst (λ (os : List Operand). HasNumbers layout kinds os numbers) (sym c.as_slice.ensures)
    (has_numbers layout i.op i.operands kinds numbers (ap (λ (r : Doing). r.kinds) c.requires.row) (ap (λ (l : Links). l.numbers) c.requires.links))

pub act_on-requires : goal.act_on-requires
act_on-requires c =
    let kept = all_keep _ _ _ _ _ c.in_ok-arguments.ensures in
    ap (λ (l : Links). l.target) c.requires.links ∙ ap (λ (x : List CodeItem). target_of x c.args.instr.now.target) (sym kept.items)
