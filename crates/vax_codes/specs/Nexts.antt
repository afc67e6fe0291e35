-- What stands next behind the labels of a code.
use Rattle.std.specs.Prelude.{◌≡◌, ℕ, ◌+◌, List, [], ◌∷◌, length, Option, Some, None, if◌then◌else◌}
use Rattle.std.specs.Option.{unwrap_or}
use Rattle.std.specs.Str.{bytes_eq}
use Rattle.indexmap.specs.IndexMap.{get_by}
use Rattle.vax_core.specs.declared.code.CodeItem.{CodeItem}
use Rattle.vax_core.specs.declared.code.CodeItem.TheVariants as item_kind
use Rattle.vax_machine.specs.declared.function.Action.{Action}
use Rattle.vax_machine.specs.declared.function.Action.TheVariants.{Branch}
use Rattle.vax_machine.specs.Functions.{action_of}
use Rattle.vax_machine.specs.Labels.{skipped, next_item, label_place, is_label}
use Rattle.vax_machine.specs.Tables.{Names, no_names}
use Rattle.vax_codes.specs.declared.nexts.Nexts.{Nexts}

abbrev pub found : Nexts → Names
found n = λ name. get_by (λ k. bytes_eq name k.now) n.places

abbrev pub next_behind : Nexts → List ℕ → ℕ
next_behind n name = unwrap_or (found n name) n.end

-- the place of the next item behind the first label of that name, among items that are counted from a place on
abbrev pub next_in : List CodeItem → ℕ → Names
next_in [] place = no_names
next_in (item ∷ rest) place = λ name. if is_label item name then Some (place + 1 + skipped rest) else next_in rest (place + 1) name

-- what is next behind each label is known of items that are counted from a place on
pub record HasNexts (n : Nexts) (items : List CodeItem) (place : ℕ) : Type 0 where
  pub names : found n ≡ next_in items place
  pub next : n.next ≡ place + skipped items
  pub last : n.end ≡ place + length items

-- what is next behind each label is known of all items
abbrev pub AreNexts : Nexts → List CodeItem → Type 0
AreNexts n items = (name : List ℕ) → next_behind n name ≡ next_item items (label_place items name)

-- ---- where a branch goes

abbrev pub place_of : List CodeItem → Action → Option (List ℕ) → Option ℕ
place_of cs (Branch t) (Some l) = Some (next_item cs (label_place cs l))
place_of cs a t = None

-- the place of the next item behind the label to which an item goes, if it is a branch
abbrev pub goal_of : List CodeItem → Option CodeItem → Option ℕ
goal_of cs (Some (item_kind.Instr i)) = place_of cs (action_of i.op) i.target
goal_of cs x = None
