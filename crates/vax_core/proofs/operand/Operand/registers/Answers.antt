use Rattle.std.proofs.Common.{◌≡◌, rules}
use Rattle.vax_core.specs.Registers.{operand_bits}
use Rattle.vax_core.proofs.RegisterLaws.{operand_named}
use Rattle.vax_core.proofs.operand.Operand.registers.Goals as goal

pub returns-clause-named : goal.returns-clause-named
returns-clause-named c =
    let bits : c.union.result.0 ≡ operand_bits c.args.self.now = search rules in
    rw bits (operand_named c.args.self.now)
