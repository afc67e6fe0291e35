-- FOLLOW as the code computes it: for each token the classes, as marks.
use Rattle.std.specs.Prelude.{ℕ, ◌-◌, List, [], ◌∷◌, Option, Some, None, Bool, true, false, ◌==◌, length, slice_get}
use Rattle.std.specs.Prelude.{slice_index_or, slice_set, replicate, if◌then◌else◌}
use Rattle.std.specs.List.{filter_map}
use Rattle.md_reader.specs.declared.types.Rule.{Rule}
use Rattle.md_reader.specs.declared.types.Sym.{Sym}
use Rattle.md_reader.specs.declared.types.Sym.TheVariants as grammar_symbol
use Rattle.lr_tables.specs.declared.marks.Edge.{Edge}
use Rattle.lr_tables.specs.Symbols.{number}
use Rattle.lr_tables.specs.Marks.{rounds}
use Rattle.lr_tables.specs.Sets.{edge_to, marked_before}

abbrev pub edge_from : ℕ → Option Sym → Option Edge
edge_from to None = None
edge_from to (Some (grammar_symbol.Tok t)) = None
edge_from to (Some (grammar_symbol.Class c)) = Some (record { from = c; to = to })

-- from the class that a right side begins with to the rule's class
abbrev pub begin_edge : Rule → Option Edge
begin_edge r = edge_from r.left (slice_get r.right 0)

-- from a rule's class to the class that its right side ends with
abbrev pub end_edge : Rule → Option Edge
end_edge r = edge_to r.left (slice_get r.right (length r.right - 1))

abbrev pub begin_edges : List Rule → List Edge
begin_edges rules = filter_map begin_edge rules

abbrev pub end_edges : List Rule → List Edge
end_edges rules = filter_map end_edge rules

-- the symbol is the token with this number
abbrev pub is_token : ℕ → Option Sym → Bool
is_token t None = false
is_token t (Some (grammar_symbol.Tok u)) = number u == t
is_token t (Some (grammar_symbol.Class c)) = false

-- the classes of the rules that begin with the token
abbrev pub begun : ℕ → List Rule → List Bool → List Bool
begun t [] m = m
begun t (r ∷ rs) m = begun t rs (if is_token t (slice_get r.right 0) then slice_set m r.left true else m)

-- the classes that may begin with the token
unfoldable pub begins : List Rule → ℕ → ℕ → List Bool
begins rules classes t = rounds classes (begin_edges rules) (begun t rules (replicate classes false))

-- the symbol may begin with the token
abbrev pub may_begin : ℕ → List Bool → Sym → Bool
may_begin t firsts (grammar_symbol.Tok u) = number u == t
may_begin t firsts (grammar_symbol.Class c) = slice_index_or firsts c false

abbrev pub marked_if : Bool → Option Sym → List Bool → List Bool
marked_if true s m = marked_before s m
marked_if false s m = m

-- the classes in a right side before a symbol that may begin with the token
abbrev pub within : ℕ → List Bool → Option Sym → List Sym → List Bool → List Bool
within t firsts before [] m = m
within t firsts before (X ∷ w) m = within t firsts (Some X) w (marked_if (may_begin t firsts X) before m)

abbrev pub all_within : ℕ → List Bool → List Rule → List Bool → List Bool
all_within t firsts [] m = m
all_within t firsts (r ∷ rs) m = all_within t firsts rs (within t firsts None r.right m)

-- `End` comes behind the class of statements
abbrev pub ended : ℕ → ℕ → List Bool → List Bool
ended stmt t m = if t == 39 then slice_set m stmt true else m

-- the classes behind which the token may come
unfoldable pub follows : List Rule → ℕ → ℕ → ℕ → List Bool
follows rules stmt classes t = rounds classes (end_edges rules) (all_within t (begins rules classes t) rules
    (ended stmt t (replicate classes false)))
