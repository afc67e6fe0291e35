-- The items that are valid for a stack: a least set over whole stacks, which knows no table.
use Rattle.std.specs.Prelude.{◌≡◌, ℕ, ◌+◌, List, [], ◌∷◌, Option, Some, None, slice_get}
use Rattle.std.specs.Option.{option_map}
use Rattle.tree_core.specs.declared.token.Tok.TheVariants as tok
use Rattle.md_reader.specs.declared.types.Rule.{Rule}
use Rattle.md_reader.specs.declared.types.Sym.{Sym}
use Rattle.md_reader.specs.declared.types.Sym.TheVariants as grammar_symbol
use Rattle.lr_tables.specs.declared.item.Item.{Item}

abbrev pub right_at : Option Rule → List Sym
right_at None = []
right_at (Some r) = r.right

-- the right side of a rule; no rule is the start, `stmt End`
abbrev pub right_of : List Rule → ℕ → Option ℕ → List Sym
right_of rules stmt None = grammar_symbol.Class stmt ∷ grammar_symbol.Tok tok.End ∷ []
right_of rules stmt (Some n) = right_at (slice_get rules n)

-- the left side of the rule with this number
abbrev pub left_of : List Rule → ℕ → Option ℕ
left_of rules n = option_map (λ (r : Rule). r.left) (slice_get rules n)

-- the symbol behind the dot
abbrev pub next : List Rule → ℕ → Item → Option Sym
next rules stmt i = slice_get (right_of rules stmt i.rule) i.dot

-- the start with the dot first, a rule with the dot first, and the dot behind one more symbol
abbrev pub start : Item
start = record { rule = None; dot = 0 }

abbrev pub fresh : ℕ → Item
fresh n = record { rule = Some n; dot = 0 }

abbrev pub advanced : Item → Item
advanced i = record { rule = i.rule; dot = i.dot + 1 }

-- the rule with its dot is valid for the stack, whose top stands first
pub data Items (rules : List Rule) (stmt : ℕ) : List Sym → Item → Type 0 where
  -- the start, for the empty stack
  starts : Items rules stmt [] start
  -- each rule of a class before which a dot stands
  opens : {a : List Sym} {i : Item} {c n : ℕ} →
      Items rules stmt a i → next rules stmt i ≡ Some (grammar_symbol.Class c) → left_of rules n ≡ Some c →
      Items rules stmt a (fresh n)
  -- the dot behind the symbol that comes on top
  moves : {a : List Sym} {i j : Item} {X : Sym} →
      Items rules stmt a i → next rules stmt i ≡ Some X → j ≡ advanced i →
      Items rules stmt (X ∷ a) j
