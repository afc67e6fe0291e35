-- What a part of the judging of a line answers, by the definition that computes it.
use Rattle.std.specs.Prelude.{◌≡◌, Result, Ok, Err}
use Rattle.vax_templates.specs.sel_target.specs.declared.fault.TemplateKind.{TemplateKind}
use Rattle.vax_target_forms.specs.declared.refusal.Refusal.{Refusal}
use Rattle.vax_target_forms.specs.declared.refusal.Refusal.TheVariants as refusals

-- it is what is wanted, or it is wrong as is wanted, or memory ran out
abbrev pub Judges : {X Y : Type 0} → (X → Y) → Result X Refusal → Result Y TemplateKind → Type 0
Judges view (Ok x) wanted = wanted ≡ Ok (view x)
Judges view (Err refusals.NoMemory) wanted = Unit {0}
Judges view (Err (refusals.Wrong k)) wanted = wanted ≡ Err k
