-- How many registers a rule needs.
use Rattle.std.specs.Prelude.{ℕ, ◌+◌, max, List, [], ◌∷◌, Bool, false, if◌then◌else◌}
use Rattle.md_reader.specs.declared.types.Class.{Class}
use Rattle.md_reader.specs.declared.types.Sym.{Sym}
use Rattle.md_reader.specs.declared.types.Sym.TheVariants as grammar_symbol
use Rattle.md_reader.specs.declared.types.Give.{Give}
use Rattle.md_reader.specs.declared.types.Give.TheVariants as give
use Rattle.md_reader.specs.declared.types.Rule.{Rule}
use Rattle.md_reader.specs.Patterns.{kind_at}
use Rattle.md_reader.specs.Restrictions.{is_reg}

-- a symbol stands for a register
abbrev pub is_register : List Class → Sym → Bool
is_register classes (grammar_symbol.Tok t) = false
is_register classes (grammar_symbol.Class c) = is_reg (kind_at classes c)

abbrev pub registers_among : List Class → List Sym → ℕ
registers_among classes [] = 0
registers_among classes (s ∷ right) = (if is_register classes s then 1 else 0) + registers_among classes right

-- with a fresh result or a scratch register one more; a result that reuses a register needs one
abbrev pub need_of : Give → ℕ → ℕ
need_of give.Fresh n = n + 1
need_of give.Scratch n = n + 1
need_of give.Reuse n = max n 1
need_of give.Nothing n = n
need_of (give.Shape l) n = n

abbrev pub need : List Class → Rule → ℕ
need classes rule = need_of rule.give (registers_among classes rule.right)
