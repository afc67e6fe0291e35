-- What the names and the labels of a code are.
use Rattle.std.specs.Prelude.{◌≡◌, Option, Some, None}
use Rattle.vax_core.specs.declared.code.Code.{Code}
use Rattle.vax_machine.specs.Loading.{double_label_of, Loads}
use Rattle.vax_image_names.specs.declared.names.Names.{Names}
use Rattle.vax_image_names.specs.declared.labels.Labels.{Labels}

-- the names of a code; none where a label stands twice or has a service's name
abbrev pub IsNamed : Code → Option Names → Type 0
IsNamed c None = double_label_of c ≡ None → ⊥
IsNamed c (Some n) = (n.layout.now ≡ c.area) × (n.items.now ≡ c.items) × (double_label_of c ≡ None)

-- the labels of a code that can be run; none of another one
abbrev pub IsLinked : Code → Option Labels → Type 0
IsLinked c None = Loads c → ⊥
IsLinked c (Some l) = Loads c × (l.items.now ≡ c.items)
