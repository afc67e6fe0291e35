-- What may stand in a rule: the holes of its lines, and what is given.
use Rattle.std.specs.Prelude.{ℕ, Bool, true, false, ◌==◌, ◌||◌, ◌&&◌, List, [], ◌∷◌, Option, Some, None, codes}
use Rattle.std.specs.Prelude.{if◌then◌else◌}
use Rattle.std.specs.List.{list_any}
use Rattle.md_reader_text.specs.Words.{same}
use Rattle.md_reader_pieces.specs.declared.piece.Piece.{Piece}
use Rattle.md_reader_pieces.specs.declared.piece.Piece.TheVariants as piece
use Rattle.tree_core.specs.declared.token.Tok.TheVariants as tok
use Rattle.tree_core.specs.declared.token.AttKind.{AttKind}
use Rattle.tree_core.specs.declared.token.AttKind.TheVariants as att_kind
use Rattle.tree_core.specs.Attributes.{attribute_of}
use Rattle.md_reader.specs.declared.types.Kind.{Kind}
use Rattle.md_reader.specs.declared.types.Kind.TheVariants as kind
use Rattle.md_reader.specs.declared.types.Class.{Class}
use Rattle.md_reader.specs.declared.types.Sym.{Sym}
use Rattle.md_reader.specs.declared.types.Sym.TheVariants as grammar_symbol
use Rattle.md_reader.specs.declared.types.Give.{Give}
use Rattle.md_reader.specs.declared.types.Give.TheVariants as give
use Rattle.md_reader.specs.Patterns.{kind_at}
use Rattle.md_reader.specs.Restrictions.{symbol_at, kind_of_symbol, is_branch, is_jump, is_call, is_con, is_reg}
use Rattle.md_reader.specs.Restrictions.{is_nothing}

-- whether one of the symbols is such
abbrev pub any_symbol : (Option Sym → Bool) → List Sym → Bool
any_symbol test right = list_any (λ (s : Sym). test (Some s)) right

-- a token with an attribute
abbrev pub is_something : AttKind → Bool
is_something att_kind.Nothing = false
is_something a = true

-- a symbol that a hole may name: a class, or a token with an attribute
abbrev pub has_value : Option Sym → Bool
has_value None = false
has_value (Some (grammar_symbol.Tok t)) = is_something (attribute_of t)
has_value (Some (grammar_symbol.Class c)) = true

-- `%0` names the rule's own register
abbrev pub symbol_hole_fits : Bool → (Option Sym → Bool) → List Sym → ℕ → Bool
symbol_hole_fits register test right i = if i == 0 then register else test (symbol_at right i)

abbrev pub piece_fits : Bool → List Sym → Piece → Bool
piece_fits register right (piece.Bytes w) = true
piece_fits register right (piece.Hole i) = symbol_hole_fits register has_value right i
piece_fits register right piece.Label = any_symbol is_branch right || any_symbol is_jump right
piece_fits register right piece.Callee = any_symbol is_call right
piece_fits register right piece.Count = any_symbol is_call right

abbrev pub pieces_fit : Bool → List Sym → List Piece → Bool
pieces_fit register right [] = true
pieces_fit register right (p ∷ ps) = piece_fits register right p && pieces_fit register right ps

-- what stands behind the `j` of `j%i`
abbrev pub behind_j : List Piece → Option (List Piece)
behind_j (piece.Bytes w ∷ ps) = if same w (codes "j") then Some ps else None
behind_j ps = None

-- the hole that a list begins with
abbrev pub first_hole : List Piece → Option ℕ
first_hole (piece.Hole i ∷ ps) = Some i
first_hole ps = None

-- the symbol whose relation a `j%i` spells
abbrev pub hole_behind : Option (List Piece) → Option ℕ
hole_behind None = None
hole_behind (Some ps) = first_hole ps

abbrev pub relation_fits : Bool → List Sym → Option ℕ → Bool
relation_fits register right None = true
relation_fits register right (Some i) = symbol_hole_fits register is_branch right i

-- the holes of a template's line: `j%i` stands where the symbol is a branch
abbrev pub line_fits : Bool → List Sym → List Piece → Bool
line_fits register right ps = relation_fits register right (hole_behind (behind_j ps)) && pieces_fit register right ps

-- the symbol that an operand is alone
abbrev pub only_symbol : List Sym → List Piece → Option Sym
only_symbol right (piece.Hole i ∷ []) = symbol_at right i
only_symbol right ps = None

-- a token that is a constant
abbrev pub is_constant : Option Sym → Bool
is_constant (Some (grammar_symbol.Tok tok.Zero)) = true
is_constant (Some (grammar_symbol.Tok tok.One)) = true
is_constant (Some (grammar_symbol.Tok tok.Two)) = true
is_constant (Some (grammar_symbol.Tok tok.Four)) = true
is_constant (Some (grammar_symbol.Tok tok.Eight)) = true
is_constant (Some (grammar_symbol.Tok tok.Const)) = true
is_constant s = false

-- an operand that a rule of this kind may give
abbrev pub shape_fits : List Class → List Sym → Option Kind → List Piece → Bool
shape_fits classes right None ps = false
shape_fits classes right (Some kind.Reg) ps = is_reg (kind_of_symbol classes (only_symbol right ps))
shape_fits classes right (Some kind.Con) ps = is_con (kind_of_symbol classes (only_symbol right ps)) || is_constant (only_symbol right ps)
shape_fits classes right (Some kind.Nothing) ps = false
shape_fits classes right (Some k) ps = true

-- a rule of a register class gives a new or an operand's register, one of a statement's class nothing
abbrev pub plain_fits : Option Kind → Give → Bool
plain_fits k give.Fresh = is_reg k
plain_fits k give.Reuse = is_reg k
plain_fits k give.Scratch = is_nothing k
plain_fits k give.Nothing = is_nothing k
plain_fits k (give.Shape l) = false

-- the right side is a class of statements
abbrev pub is_bare : List Class → List Sym → Bool
is_bare classes (grammar_symbol.Class c ∷ []) = is_nothing (kind_at classes c)
is_bare classes right = false
