-- What a reading of a part answers, by the definition that computes it.
use Rattle.std.specs.Prelude.{◌≡◌, ℕ, List, Option, Some, None, Result, Ok, Err}
use Rattle.std.specs.Borrow.{Bor}
use Rattle.l32_reader.specs.declared.line_fault.LineFault.{LineFault}
use Rattle.l32_reader.specs.declared.line_fault.LineFault.TheVariants.{NoMemory, NotOfForm}

-- what stands at the front and what is left behind it, or nothing, or memory ran out
abbrev pub Gives : {A : Type 0} → Result (A × Bor (List ℕ)) LineFault → Option (A × List ℕ) → Type 0
Gives (Ok x) wanted = wanted ≡ Some (x.0, x.1.now)
Gives (Err NoMemory) wanted = Unit {0}
Gives (Err NotOfForm) wanted = wanted ≡ None
