-- What the calls answer, by the first refusal.
use Rattle.std.specs.Prelude.{◌≡◌, ℕ, Option, Some, None, Result, Ok, Err}
use Rattle.sel_terms.specs.Effects.{effect_of}
use Rattle.sel_target.specs.declared.fault.TargetFault.{TargetFault}
use Rattle.sel_target.specs.declared.fault.TargetFault.TheVariants as target_fault
use Rattle.sel_parse.specs.declared.fault.ShowFault.{ShowFault}
use Rattle.sel_parse.specs.declared.fault.ShowFault.TheVariants as faults
use Rattle.sel_parse.specs.Shown.{Refusal, PoolSmall, Template, Unshown}

-- memory ran out, or this is the first refusal
abbrev pub IsRefusal : ShowFault → Option Refusal → Type 0
IsRefusal faults.NoMemory wanted = Unit {0}
IsRefusal (faults.PoolSmall rule need) wanted = wanted ≡ Some (PoolSmall rule need)
IsRefusal (faults.Template rule line kind) wanted = wanted ≡ Some (Template rule line kind)
IsRefusal (faults.Unshown rule w f) wanted = wanted ≡ Some (Unshown rule (effect_of w) (effect_of f))

-- nothing is refused, or the first refusal is answered
abbrev pub Refuses : Result Unit ShowFault → Option Refusal → Type 0
Refuses (Ok u) wanted = wanted ≡ None
Refuses (Err e) wanted = IsRefusal e wanted

-- the tables go into the generator, or are handed back
abbrev pub Shows : {G T : Type 0} → (G → T) → Result G (T × ShowFault) → T → Option Refusal → Type 0
Shows tables_of (Ok g) tables wanted = (tables_of g ≡ tables) × (wanted ≡ None)
Shows tables_of (Err e) tables wanted = (e.0 ≡ tables) × IsRefusal e.1 wanted

abbrev pub fault_of : ℕ → TargetFault → ShowFault
fault_of rule target_fault.NoMemory = faults.NoMemory
fault_of rule (target_fault.At line kind) = faults.Template rule line kind
