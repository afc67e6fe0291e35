-- What a part of the judging of a template answers, with the line that is wrong, by the definition that computes it.
use Rattle.std.specs.Prelude.{◌≡◌, ℕ, Result, Ok, Err}
use Rattle.sel_target.specs.declared.fault.TargetFault.{TargetFault}
use Rattle.sel_target.specs.declared.fault.TargetFault.TheVariants as target_fault
use Rattle.sel_target.specs.Meaning.{Fault}
use Rattle.vax_target_forms.specs.declared.refusal.Refusal.{Refusal}
use Rattle.vax_target_forms.specs.declared.refusal.Refusal.TheVariants as refusals

-- it is what is wanted, or the line that is wanted is wrong in the way that is wanted, or memory ran out
abbrev pub Answers : {X Y : Type 0} → (X → Y) → Result X TargetFault → Result Y Fault → Type 0
Answers view (Ok x) wanted = wanted ≡ Ok (view x)
Answers view (Err target_fault.NoMemory) wanted = Unit {0}
Answers view (Err (target_fault.At line k)) wanted = wanted ≡ Err (record { line = line; kind = k })

-- a change that is as wanted
abbrev pub Goes : {Y : Type 0} → Result Unit TargetFault → Y → Result Y Fault → Type 0
Goes (Ok u) new wanted = wanted ≡ Ok new
Goes (Err target_fault.NoMemory) new wanted = Unit {0}
Goes (Err (target_fault.At line k)) new wanted = wanted ≡ Err (record { line = line; kind = k })

abbrev pub fault_at : ℕ → Refusal → TargetFault
fault_at line refusals.NoMemory = target_fault.NoMemory
fault_at line (refusals.Wrong k) = target_fault.At line k
