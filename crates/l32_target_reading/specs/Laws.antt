-- The law of this crate: in a state that stands for a tree state, operands read and name what is there.
use Rattle.l32_target_spelling.specs.judging_laws.specs.sel_target.specs.OperandLaws.{ReadsWhatIsThere}
use Rattle.l32_states.specs.l32_target_meaning.specs.L32.{l32}

abbrev pub OperandsRead : Type 0
OperandsRead = ReadsWhatIsThere l32
