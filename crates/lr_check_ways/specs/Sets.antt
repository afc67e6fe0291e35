-- Sets of tokens, as bits by their numbers.
use Rattle.std.specs.Prelude.{◌≡◌, ℕ}
use Rattle.std.specs.Int.{bit_at}
use Rattle.tree_core.specs.declared.token.Tok.{Tok}
use Rattle.lr_tables.specs.Symbols.{number}

-- the token is in the set
abbrev pub In : ℕ → Tok → Type 0
In set k = bit_at set (number k) ≡ 1
