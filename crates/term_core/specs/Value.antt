-- What a term is worth.
use Rattle.std.specs.Prelude.{ℕ, ◌≡◌, ◌%◌, ◌^◌, ◌<◌, List, true}
use Rattle.gg_base.specs.declared.size.Size.{Size}
use Rattle.gg_base.specs.LittleEndian.{number_of}
use Rattle.gg_base.specs.declared.size.Size.TheVariants.{Byte, Word}
use Rattle.term_core.specs.declared.facts.Fact.{Fact}
use Rattle.term_core.specs.Facts.{has_size, is_count, same_as}
use Rattle.term_core.specs.Operators.{unary, binary}
use Rattle.term_core.specs.Shape.{Shape, Constant, Symbol, LastResult, Memory, Unary, Binary}

-- the values of a rule's symbols, the last call's result, and the byte at each address
pub record State : Type 0 where
  pub symbol : ℕ → ℕ
  pub last_result : ℕ
  pub byte : ℕ → ℕ

-- the bytes from an address on, the lowest byte first
abbrev pub byte_at : State → ℕ → ℕ
byte_at m address = m.byte address % 2 ^ 8

abbrev pub memory_at : State → Size → ℕ → ℕ
memory_at m size address = number_of (byte_at m) size address

abbrev pub value : State → Shape → ℕ
value m (Constant n) = n % 2 ^ 32
value m (Symbol i) = m.symbol i % 2 ^ 32
value m LastResult = m.last_result % 2 ^ 32
value m (Memory size a) = memory_at m size (value m a)
value m (Unary op t) = unary op (value m t)
value m (Binary op a b) = binary op (value m a) (value m b)

-- the symbols have values as the facts say
pub record Respects (facts : List Fact) (m : State) : Type 0 where
  pub bytes : (i : ℕ) → has_size facts i Byte ≡ true → m.symbol i < 2 ^ 8
  pub words : (i : ℕ) → has_size facts i Word ≡ true → m.symbol i < 2 ^ 16
  pub counts : (i : ℕ) → is_count facts i ≡ true → m.symbol i < 32
  pub alike : (i : ℕ) → m.symbol (same_as facts i) ≡ m.symbol i
