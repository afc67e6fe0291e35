-- The item sets as the code computes them, from their kernels.
use Rattle.std.specs.Prelude.{ℕ, ◌+◌, List, [], ◌∷◌, ◌++◌, Option, Some, None, Bool, true, false, ◌==◌, slice_get}
use Rattle.std.specs.Prelude.{slice_index_or, slice_set, replicate, map, filter, if◌then◌else◌}
use Rattle.std.specs.List.{filter_map}
use Rattle.std.specs.Option.{option_map_or}
use Rattle.md_reader.specs.declared.types.Rule.{Rule}
use Rattle.md_reader.specs.declared.types.Sym.{Sym}
use Rattle.md_reader.specs.declared.types.Sym.TheVariants as grammar_symbol
use Rattle.lr_tables.specs.declared.item.Item.{Item}
use Rattle.lr_tables.specs.declared.marks.Edge.{Edge}
use Rattle.lr_tables.specs.Symbols.{symbol_number}
use Rattle.lr_tables.specs.Items.{next, fresh, advanced}
use Rattle.lr_tables.specs.Marks.{rounds}

abbrev pub edge_to : ℕ → Option Sym → Option Edge
edge_to from None = None
edge_to from (Some (grammar_symbol.Tok t)) = None
edge_to from (Some (grammar_symbol.Class c)) = Some (record { from = from; to = c })

-- from a rule's class to the class that its right side begins with
abbrev pub first_edge : Rule → Option Edge
first_edge r = edge_to r.left (slice_get r.right 0)

abbrev pub chains : List Rule → List Edge
chains rules = filter_map first_edge rules

-- the symbol is marked, if it is a class
abbrev pub marked_before : Option Sym → List Bool → List Bool
marked_before None m = m
marked_before (Some (grammar_symbol.Tok t)) m = m
marked_before (Some (grammar_symbol.Class c)) m = slice_set m c true

-- the classes behind the dots are marked
abbrev pub marked_all : List Rule → ℕ → List Item → List Bool → List Bool
marked_all rules stmt [] m = m
marked_all rules stmt (i ∷ is) m = marked_all rules stmt is (marked_before (next rules stmt i) m)

-- the rules of the marked classes with the dot first; rules are counted on from a number
abbrev pub opened_from : ℕ → List Rule → List Bool → List Item
opened_from n [] m = []
opened_from n (r ∷ rs) m = if slice_index_or m r.left false then fresh n ∷ opened_from (n + 1) rs m else opened_from (n + 1) rs m

-- the classes that a kernel opens
abbrev pub open_classes : List Rule → ℕ → ℕ → List Edge → List Item → List Bool
open_classes rules stmt classes edges kernel = rounds classes edges (marked_all rules stmt kernel (replicate classes false))

-- the kernel and all that it opens
unfoldable pub item_set : List Rule → ℕ → ℕ → List Edge → List Item → List Item
item_set rules stmt classes edges kernel = kernel ++ opened_from 0 rules (open_classes rules stmt classes edges kernel)

-- the symbol with this number stands behind the dot
abbrev pub stands_before : List Rule → ℕ → ℕ → Item → Bool
stands_before rules stmt symbol i = option_map_or (λ (X : Sym). symbol_number X == symbol) (next rules stmt i) false

-- the kernel behind the symbol with this number
unfoldable pub moved : List Rule → ℕ → ℕ → List Item → List Item
moved rules stmt symbol items = map advanced (filter (stands_before rules stmt symbol) items)
