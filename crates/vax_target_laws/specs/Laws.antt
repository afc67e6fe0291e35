-- The law of this crate: the VAX keeps the laws of a target.
use Rattle.vax_target_traps.specs.sel_target.specs.Laws.{IsLawful}
use Rattle.vax_target_order.specs.vax_target_meaning.specs.Vax.{vax}

-- all laws that selection asks of a target
abbrev pub VaxIsLawful : Type 0
VaxIsLawful = IsLawful vax
