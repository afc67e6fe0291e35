use Rattle.std.proofs.Common.{rules, arith}
use Rattle.vax_machine.proofs.Keeping.{evaluated_keeps}
use Rattle.vax_machine.proofs.Numbers.{numbers_behind}
use Rattle.vax_machine.proofs.machine.Machine.+evaluate_all.Goals as goal

pub evaluate_all-requires : goal.evaluate_all-requires
evaluate_all-requires c d = (
  search rules,
  numbers_behind d.args.self.now.program.layout.now d.evaluate.new.self.program.layout.now d.args.kinds.now d.args.operands.now d.args.numbers.now
      (omega (arith, d.in-len1-up.len_at_least)) (omega (arith, d.in-len1-up-operands.len_at_least)) (omega (arith, d.in-len1-up-numbers.len_at_least))
      (evaluated_keeps _ _ _ _ _ d.in_ok-front.ensures).layout d.requires,
)
