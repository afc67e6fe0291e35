-- The item sets in the order in which they are found: breadth first, symbols by their numbers.
use Rattle.std.specs.Prelude.{ℕ, zero, suc, ◌+◌, ◌<◌, List, [], ◌∷◌, Option, Some, None, Bool, ◌==◌, ◌&&◌, length, slice_get, map, Vec}
use Rattle.std.specs.declared.alloc.Global.{Global}
use Rattle.std.specs.Option.{option_eq}
use Rattle.std.specs.Cmp.Lexicographic.{pointwise}
use Rattle.lr_tables.specs.declared.numbering.TheConstants.{MAX_STATES}
use Rattle.indexmap.specs.IndexSet.{insert_key}
use Rattle.md_reader.specs.declared.types.Rule.{Rule}
use Rattle.lr_tables.specs.declared.item.Item.{Item}
use Rattle.lr_tables.specs.Items.{start}
use Rattle.lr_tables.specs.Sets.{chains, item_set, moved}

abbrev pub same_item : Item → Item → Bool
same_item i j = option_eq ◌==◌ i.rule j.rule && (i.dot == j.dot)

abbrev pub same_kernel : List Item → List Item → Bool
same_kernel k l = pointwise same_item k l

abbrev pub kernels : List (Vec Item Global) → List (List Item)
kernels keys = map (λ (v : Vec Item Global). v.items) keys

-- one more kernel, if there are items and it is new
abbrev pub entered : List (List Item) → List Item → List (List Item)
entered ks [] = ks
entered ks (i ∷ is) = insert_key same_kernel ks (i ∷ is)

-- the kernels behind the first so many symbols
abbrev pub row_entered : List Rule → ℕ → List Item → List (List Item) → ℕ → List (List Item)
row_entered rules stmt items ks zero = ks
row_entered rules stmt items ks (suc n) = entered (row_entered rules stmt items ks n) (moved rules stmt n items)

-- the kernels behind a kernel
abbrev pub followed : List Rule → ℕ → ℕ → List (List Item) → Option (List Item) → List (List Item)
followed rules stmt classes ks None = ks
followed rules stmt classes ks (Some k) = row_entered rules stmt (item_set rules stmt classes (chains rules) k) ks (40 + classes)

-- the kernels that are known when so many item sets have been followed
unfoldable pub found : List Rule → ℕ → ℕ → ℕ → List (List Item)
found rules stmt classes zero = (start ∷ []) ∷ []
found rules stmt classes (suc n) = followed rules stmt classes (found rules stmt classes n) (slice_get (found rules stmt classes n) n)

-- more than `MAX_STATES` item sets are found
pub record IsOver (rules : List Rule) (stmt classes : ℕ) : Type 0 where
  pub at : ℕ
  pub over : MAX_STATES < length (found rules stmt classes at)
