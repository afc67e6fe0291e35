-- What a part of the reading of a line answers, by the definition that computes it.
use Rattle.std.specs.Prelude.{◌≡◌, Option, Some, None, Result, Ok, Err}
use Rattle.sel_target.specs.declared.fault.TemplateKind.TheVariants.{NotInstr}
use Rattle.vax_target_forms.specs.declared.refusal.Refusal.{Refusal}
use Rattle.vax_target_forms.specs.declared.refusal.Refusal.TheVariants as refusals

-- it is what is wanted, or there is none, which is no instruction, or memory ran out
abbrev pub Reads : {X Y : Type 0} → (X → Y) → Result X Refusal → Option Y → Type 0
Reads view (Ok x) wanted = wanted ≡ Some (view x)
Reads view (Err refusals.NoMemory) wanted = Unit {0}
Reads view (Err (refusals.Wrong k)) wanted = (wanted ≡ None) × (k ≡ NotInstr)
