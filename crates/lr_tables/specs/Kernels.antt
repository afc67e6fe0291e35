-- The kernel that a stack leads to.
use Rattle.std.specs.Prelude.{ℕ, List, [], ◌∷◌}
use Rattle.md_reader.specs.declared.types.Rule.{Rule}
use Rattle.md_reader.specs.declared.types.Sym.{Sym}
use Rattle.lr_tables.specs.declared.item.Item.{Item}
use Rattle.lr_tables.specs.Symbols.{symbol_number}
use Rattle.lr_tables.specs.Items.{start}
use Rattle.lr_tables.specs.Sets.{chains, item_set, moved}

-- the items of the stack with a dot behind its top, or the start
abbrev pub kernel_at : List Rule → ℕ → ℕ → List Sym → List Item
kernel_at rules stmt classes [] = start ∷ []
kernel_at rules stmt classes (X ∷ a) = moved rules stmt (symbol_number X)
    (item_set rules stmt classes (chains rules) (kernel_at rules stmt classes a))
