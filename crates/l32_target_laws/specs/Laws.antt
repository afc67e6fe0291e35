-- The law of this crate: L32 keeps the laws of a target.
use Rattle.l32_target_traps.specs.l32_target_rules.specs.judging_laws.specs.sel_target.specs.Laws.{IsLawful}
use Rattle.l32_target_traps.specs.l32_target_meaning.specs.L32.{l32}

-- all laws that selection asks of a target
abbrev pub L32IsLawful : Type 0
L32IsLawful = IsLawful l32
