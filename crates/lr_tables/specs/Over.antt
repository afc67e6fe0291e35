-- Whether there are too many item sets: a count of stacks, no two of which have the same items.
use Rattle.std.specs.Prelude.{◌≡◌, ◌↔◌, ℕ, ◌<◌, List, Some, length, slice_get}
use Rattle.lr_tables.specs.declared.numbering.TheConstants.{MAX_STATES}
use Rattle.md_reader.specs.declared.types.Rule.{Rule}
use Rattle.md_reader.specs.declared.types.Sym.{Sym}
use Rattle.lr_tables.specs.declared.item.Item.{Item}
use Rattle.lr_tables.specs.Items.{Items}

-- the same items are valid for both stacks
abbrev pub SameItems : List Rule → ℕ → List Sym → List Sym → Type 0
SameItems rules stmt a b = (i : Item) → Items rules stmt a i ↔ Items rules stmt b i

-- each stack has an item, and no two have the same items
pub record AreApart (rules : List Rule) (stmt : ℕ) (stacks : List (List Sym)) : Type 0 where
  pub live : (k : ℕ) (a : List Sym) → slice_get stacks k ≡ Some a → (i : Item) × Items rules stmt a i
  pub apart : (j k : ℕ) (a b : List Sym) → j < k → slice_get stacks j ≡ Some a → slice_get stacks k ≡ Some b → SameItems rules stmt a b → ⊥

-- there are more than `MAX_STATES` item sets
pub record HasTooMany (rules : List Rule) (stmt : ℕ) : Type 0 where
  pub stacks : List (List Sym)
  pub many : MAX_STATES < length stacks
  pub differ : AreApart rules stmt stacks
