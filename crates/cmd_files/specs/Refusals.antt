-- What a refusal of a file's bytes says.
use Rattle.std.specs.Prelude.{ℕ, List}
use Rattle.cmd_files.specs.declared.forms.Refusal.{Refusal}
use Rattle.cmd_files.specs.declared.forms.Refusal.TheVariants as refusals
use Rattle.cmd_files.specs.Forms.{Form, IsRefusedBy}

abbrev pub Refuses : {A : Type 0} → Form A → List ℕ → Refusal → Type 0
Refuses form bytes refusals.NoMemory = Unit {0}
Refuses form bytes (refusals.Line line) = IsRefusedBy form bytes line
