-- What a symbol of a right side is, and which restrictions may stand on it.
use Rattle.std.specs.Prelude.{ℕ, ◌-◌, Bool, true, false, ◌==◌, ◌||◌, ◌&&◌, not, List, Option, Some, None, slice_get}
use Rattle.std.specs.Prelude.{if◌then◌else◌}
use Rattle.gg_base.specs.declared.size.Size.{Size}
use Rattle.gg_base.specs.declared.size.Size.TheVariants as sizes
use Rattle.tree_core.specs.declared.token.Tok.TheVariants as tok
use Rattle.md_reader.specs.declared.types.Kind.{Kind}
use Rattle.md_reader.specs.declared.types.Kind.TheVariants as kind
use Rattle.md_reader.specs.declared.types.Class.{Class}
use Rattle.md_reader.specs.declared.types.Sym.{Sym}
use Rattle.md_reader.specs.declared.types.Sym.TheVariants as grammar_symbol
use Rattle.md_reader.specs.declared.types.Restriction.{Restriction}
use Rattle.md_reader.specs.declared.types.Restriction.TheVariants as restriction
use Rattle.md_reader.specs.Patterns.{kind_at}

-- the symbol with this number, from 1
abbrev pub symbol_at : List Sym → ℕ → Option Sym
symbol_at right i = if i == 0 then None else slice_get right (i - 1)

-- the kind of the class that a symbol is
abbrev pub kind_of_symbol : List Class → Option Sym → Option Kind
kind_of_symbol classes None = None
kind_of_symbol classes (Some (grammar_symbol.Tok t)) = None
kind_of_symbol classes (Some (grammar_symbol.Class c)) = kind_at classes c

-- the size of a value or a place
abbrev pub size_of_kind : Option Kind → Option Size
size_of_kind (Some (kind.Value z)) = Some z
size_of_kind (Some (kind.Place z)) = Some z
size_of_kind k = None

abbrev pub is_local : Option Sym → Bool
is_local (Some (grammar_symbol.Tok tok.Loc)) = true
is_local (Some (grammar_symbol.Tok tok.Arg)) = true
is_local s = false

abbrev pub size_of_symbol : List Class → Option Sym → Option Size
size_of_symbol classes s = if is_local s then Some sizes.Long else size_of_kind (kind_of_symbol classes s)

abbrev pub same_size : Option Size → Option Size → Bool
same_size (Some sizes.Byte) (Some sizes.Byte) = true
same_size (Some sizes.Word) (Some sizes.Word) = true
same_size (Some sizes.Long) (Some sizes.Long) = true
same_size a b = false

abbrev pub is_branch : Option Sym → Bool
is_branch (Some (grammar_symbol.Tok tok.Cbr)) = true
is_branch s = false

abbrev pub is_jump : Option Sym → Bool
is_jump (Some (grammar_symbol.Tok tok.Jump)) = true
is_jump s = false

abbrev pub is_call : Option Sym → Bool
is_call (Some (grammar_symbol.Tok tok.Call)) = true
is_call s = false

abbrev pub is_const : Option Sym → Bool
is_const (Some (grammar_symbol.Tok tok.Const)) = true
is_const s = false

abbrev pub is_con : Option Kind → Bool
is_con (Some kind.Con) = true
is_con k = false

abbrev pub is_reg : Option Kind → Bool
is_reg (Some kind.Reg) = true
is_reg k = false

abbrev pub is_nothing : Option Kind → Bool
is_nothing (Some kind.Nothing) = true
is_nothing k = false

-- `same` on two values, places, locals or arguments of one size; `range` on a constant; `signed` on a
-- branch
abbrev pub restriction_fits : List Class → List Sym → Restriction → Bool
restriction_fits classes right (restriction.Same i j) =
    not (i == j) && same_size (size_of_symbol classes (symbol_at right i)) (size_of_symbol classes (symbol_at right j))
restriction_fits classes right (restriction.Range i lo hi) =
    is_const (symbol_at right i) || is_con (kind_of_symbol classes (symbol_at right i))
restriction_fits classes right (restriction.Signed i) = is_branch (symbol_at right i)
