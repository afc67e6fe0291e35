-- The rows of the tables as the code computes them.
use Rattle.std.specs.Prelude.{ℕ, ◌+◌, List, [], ◌∷◌, Option, Some, None, Bool, false, ◌==◌, ◌&&◌, length, map}
use Rattle.std.specs.Prelude.{position, slice_get, slice_index_or, if◌then◌else◌}
use Rattle.std.specs.List.{filter_map, range_with_len}
use Rattle.std.specs.Option.{option_map, option_and_then}
use Rattle.md_reader.specs.declared.types.Rule.{Rule}
use Rattle.lr_tables.specs.declared.item.Item.{Item}
use Rattle.lr_tables.specs.declared.types.Choice.{Choice}
use Rattle.lr_tables.specs.declared.types.Choice.TheVariants as choice
use Rattle.lr_tables.specs.Sets.{chains, item_set, moved}
use Rattle.lr_tables.specs.Looking.{follows}
use Rattle.lr_tables.specs.Numbering.{same_kernel}
use Rattle.lr_tables.specs.View.{RowView}

-- the number of the item set with this kernel
abbrev pub target_of : List (List Item) → List Item → Option ℕ
target_of ks [] = None
target_of ks (i ∷ is) = position (same_kernel (i ∷ is)) ks

-- where each of the first so many symbols leads
unfoldable pub targets_of : List Rule → ℕ → List Item → List (List Item) → ℕ → List (Option ℕ)
targets_of rules stmt items ks n = map (λ (m : ℕ). target_of ks (moved rules stmt m items)) (range_with_len 0 n)

abbrev pub reduction_at : List Bool → ℕ → ℕ → Option Rule → Option ℕ
reduction_at follow n dot None = None
reduction_at follow n dot (Some r) = if (dot == length r.right) && slice_index_or follow r.left false then Some n else None

-- the rule of a complete item whose class is in the set
abbrev pub reduction : List Rule → List Bool → Item → Option ℕ
reduction rules follow i = option_and_then (λ (n : ℕ). reduction_at follow n i.dot (slice_get rules n)) i.rule

abbrev pub reductions : List Rule → List Bool → List Item → List Choice
reductions rules follow kernel = filter_map (λ (i : Item). option_map choice.Reduce (reduction rules follow i)) kernel

-- the shift alone, which is Accept at `End`, or the reductions
abbrev pub cell : ℕ → Option ℕ → List Choice → List Choice
cell token None others = others
cell token (Some q) others = if token == 39 then choice.Accept ∷ [] else choice.Shift q ∷ []

unfoldable pub actions_of : List Rule → List (List Bool) → List Item → List (Option ℕ) → ℕ → List (List Choice)
actions_of rules follow kernel targets n = map (λ (t : ℕ). cell t (slice_index_or targets t None)
    (reductions rules (slice_index_or follow t []) kernel)) (range_with_len 0 n)

-- for each of the first so many tokens the classes behind which it may come
unfoldable pub all_follows : List Rule → ℕ → ℕ → ℕ → List (List Bool)
all_follows rules stmt classes n = map (follows rules stmt classes) (range_with_len 0 n)

unfoldable pub row_of : List Rule → ℕ → ℕ → List (List Item) → List Item → RowView
row_of rules stmt classes ks kernel =
    let targets = targets_of rules stmt (item_set rules stmt classes (chains rules) kernel) ks (40 + classes) in
    record { targets = targets; actions = actions_of rules (all_follows rules stmt classes 40) kernel targets 40 }
