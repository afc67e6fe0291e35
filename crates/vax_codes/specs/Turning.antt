-- How branches are turned, item by item.
use Rattle.std.specs.Prelude.{ℕ, ◌+◌, List, [], ◌∷◌, Option, Some, None, nat_lt, if◌then◌else◌}
use Rattle.vax_core.specs.declared.code.CodeItem.{CodeItem}
use Rattle.vax_core.specs.declared.code.CodeItem.TheVariants as item_kind
use Rattle.vax_passes.specs.Dropping.{Kept, put_first}

-- an instruction with another label
abbrev pub relabelled : CodeItem → List ℕ → CodeItem
relabelled (item_kind.Label n) name = item_kind.Label n
relabelled (item_kind.Globl n) name = item_kind.Globl n
relabelled (item_kind.Mask m) name = item_kind.Mask m
relabelled (item_kind.Instr i) name = item_kind.Instr (record i { target = Some name })

abbrev pub turned_in : CodeItem → List ℕ → Kept → Kept
turned_in x name k = record { made = k.made + 1; items = relabelled x name ∷ k.items }

-- one item more, in front
abbrev pub one_turned : CodeItem → Option (List ℕ) → Kept → Kept
one_turned x None k = put_first x k
one_turned x (Some name) k = if nat_lt k.made 18446744073709551615 then turned_in x name k else put_first x k

-- from the end on, each item with its name
abbrev pub with_labels : List CodeItem → List (Option (List ℕ)) → Kept → Kept
with_labels [] names k = k
with_labels (x ∷ xs) [] k = put_first x (with_labels xs [] k)
with_labels (x ∷ xs) (o ∷ os) k = one_turned x o (with_labels xs os k)
