use Rattle.std.proofs.Common.{◌≡◌, ◌++◌, length}
use Rattle.vax_core.specs.Text.{operands_text}
use Rattle.vax_writer.proofs.operand.put_operands.Given as goal

-- what was written and what is left to write are the whole
abbrev pub invariant-loop-rest : goal.invariant-loop-rest
invariant-loop-rest l = l.into.items ++ operands_text l.rest l.target ≡ l.initial.into.items ++ operands_text l.fn.operands l.target

abbrev pub decreases-loop-rest : goal.decreases-loop-rest
decreases-loop-rest l = length l.rest
