-- Lists of symbols by number: the first is empty, each other one has a symbol on top of an earlier one.
use Rattle.std.specs.Prelude.{◌≡◌, ℕ, ◌+◌, List, [], ◌∷◌, ◌++◌, Some, length, slice_get}
use Rattle.md_reader.specs.declared.types.Sym.{Sym}
use Rattle.md_reader.specs.declared.types.Sym.TheVariants as grammar_symbol
use Rattle.tree_core.specs.declared.token.Tok.{Tok}
use Rattle.lr_tables.specs.Symbols.{symbol_number}
use Rattle.lr_check_found.specs.declared.lists.Cell.{Cell}

-- the lists, each with its last symbol first, and of each but the first its top and its rest
pub record ListsView : Type 0 where
  pub cells : List Cell
  pub all : List (List Sym)

-- the list with this number
abbrev pub IsList : ListsView → ℕ → List Sym → Type 0
IsList v n s = slice_get v.all n ≡ Some s

-- a cell's list
pub record IsCell (v : ListsView) (n : ℕ) (c : Cell) : Type 0 where
  pub top : Sym
  pub rest : List Sym
  pub number : symbol_number top ≡ c.symbol
  pub lower : IsList v c.rest rest
  pub whole : IsList v (n + 1) (top ∷ rest)

pub record AreLists (v : ListsView) : Type 0 where
  pub first : IsList v 0 []
  pub many : length v.all ≡ length v.cells + 1
  pub cells : (n : ℕ) (c : Cell) → slice_get v.cells n ≡ Some c → IsCell v n c
  -- no cell stands twice
  pub apart : (n m : ℕ) (c : Cell) → slice_get v.cells n ≡ Some c → slice_get v.cells m ≡ Some c → n ≡ m

-- the lists that were there stay
pub record KeepsLists (v w : ListsView) : Type 0 where
  pub kept : (n : ℕ) (s : List Sym) → IsList v n s → IsList w n s

-- the number is that of the symbol on top of the list with the number before
abbrev pub IsPushed : ListsView → Sym → ℕ → ℕ → Type 0
IsPushed v X rest n = (s : List Sym) → IsList v rest s → IsList v n (X ∷ s)

-- the number is that of the one list on top of the other
abbrev pub IsJoined : ListsView → ℕ → ℕ → ℕ → Type 0
IsJoined v upper lower n = (u l : List Sym) → IsList v upper u → IsList v lower l → IsList v n (u ++ l)

-- the number is that of the one list on top of the other, behind the token
abbrev pub IsBehindToken : ListsView → Tok → ℕ → ℕ → ℕ → Type 0
IsBehindToken v t upper lower n = (u l : List Sym) → IsList v upper u → IsList v lower l
    → IsList v n (u ++ (l ++ (grammar_symbol.Tok t ∷ [])))
