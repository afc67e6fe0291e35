-- The law of this crate: in a state that stands for a tree state, operands read and name what is there.
use Rattle.vax_target_spelling.specs.sel_target.specs.OperandLaws.{ReadsWhatIsThere}
use Rattle.vax_target_spelling.specs.vax_target_meaning.specs.Vax.{vax}

abbrev pub OperandsRead : Type 0
OperandsRead = ReadsWhatIsThere vax
