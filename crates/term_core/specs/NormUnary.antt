-- The normal term that a unary operator makes of a normal one, by the first equation that fits.
use Rattle.std.specs.Prelude.{ℕ, ◌%◌, ◌^◌, List, if◌then◌else◌}
use Rattle.gg_base.specs.declared.size.Size.TheVariants.{Byte, Word}
use Rattle.term_core.specs.declared.facts.Fact.{Fact}
use Rattle.term_core.specs.Facts.{has_size}
use Rattle.term_core.specs.declared.operator.UnaryOp.{UnaryOp}
use Rattle.term_core.specs.declared.operator.UnaryOp.TheVariants.{Neg, Com, Zx8, Zx16, Sx8, Sx16}
use Rattle.term_core.specs.Operators.{unary}
use Rattle.term_core.specs.Shape.{Shape, Constant, Symbol, Memory, Unary}

-- an operator on constants alone is its value
abbrev pub unary_constant : UnaryOp → ℕ → Shape
unary_constant op n = Constant (unary op (n % 2 ^ 32))

-- Neg(Neg(t)) is t
abbrev pub make_neg : Shape → Shape
make_neg (Constant n) = unary_constant Neg n
make_neg (Unary Neg t) = t
make_neg t = Unary Neg t

-- Com(Com(t)) is t
abbrev pub make_com : Shape → Shape
make_com (Constant n) = unary_constant Com n
make_com (Unary Com t) = t
make_com t = Unary Com t

-- an extension of an extended byte is one of the byte; what has zeros above its byte is extended already
abbrev pub make_zx8 : List Fact → Shape → Shape
make_zx8 facts (Constant n) = unary_constant Zx8 n
make_zx8 facts (Unary Zx8 t) = make_zx8 facts t
make_zx8 facts (Unary Sx8 t) = make_zx8 facts t
make_zx8 facts (Symbol i) = if has_size facts i Byte then Symbol i else Unary Zx8 (Symbol i)
make_zx8 facts (Memory Byte a) = Memory Byte a
make_zx8 facts t = Unary Zx8 t

-- the same at a word
abbrev pub make_zx16 : List Fact → Shape → Shape
make_zx16 facts (Constant n) = unary_constant Zx16 n
make_zx16 facts (Unary Zx16 t) = make_zx16 facts t
make_zx16 facts (Unary Sx16 t) = make_zx16 facts t
make_zx16 facts (Symbol i) = if has_size facts i Word then Symbol i else Unary Zx16 (Symbol i)
make_zx16 facts (Memory Word a) = Memory Word a
make_zx16 facts t = Unary Zx16 t

abbrev pub make_sx8 : Shape → Shape
make_sx8 (Constant n) = unary_constant Sx8 n
make_sx8 (Unary Sx8 t) = make_sx8 t
make_sx8 (Unary Zx8 t) = make_sx8 t
make_sx8 t = Unary Sx8 t

abbrev pub make_sx16 : Shape → Shape
make_sx16 (Constant n) = unary_constant Sx16 n
make_sx16 (Unary Sx16 t) = make_sx16 t
make_sx16 (Unary Zx16 t) = make_sx16 t
make_sx16 t = Unary Sx16 t

abbrev pub make_unary : List Fact → UnaryOp → Shape → Shape
make_unary facts Neg t = make_neg t
make_unary facts Com t = make_com t
make_unary facts Zx8 t = make_zx8 facts t
make_unary facts Zx16 t = make_zx16 facts t
make_unary facts Sx8 t = make_sx8 t
make_unary facts Sx16 t = make_sx16 t
