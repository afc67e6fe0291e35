-- One declaration before others and the statements behind them, as the lowering of all of them takes it.
use Rattle.std.specs.Prelude.{ℕ, List}
use Rattle.c_program.specs.Statements.{ADeclaration, KeepOf, ClearOf, BeginOf, StoreOf, ZerosOf, SomeActions}
use Rattle.c_lower_scheme.specs.Parts.{Emitted, InLocal, nothing}
use Rattle.c_lower_scheme.specs.Expressions.{way}
use Rattle.c_lower_scheme.specs.Mentions.{mentions}
use Rattle.c_lower_scheme.specs.Zeros.{is_zeroed}
use Rattle.c_lower_scheme.specs.Flow.{clearing, begin_of, stored_in_block, zeros_in_block}

abbrev pub one_declared : ℕ → ℕ → ℕ → ADeclaration → List ADeclaration → SomeActions → ℕ → Emitted
one_declared size count first (KeepOf object) ds rest l = nothing first l
one_declared size count first (ClearOf n) ds rest l = record { items = clearing (is_zeroed n ds rest) n; temps = first; labels = l }
one_declared size count first (BeginOf n e) ds rest l = begin_of (mentions n e) n ((way size count e).deliver (InLocal n) first l)
one_declared size count first (StoreOf t o e) ds rest l = stored_in_block size t o ((way size count e).low first l)
one_declared size count first (ZerosOf t o n) ds rest l = zeros_in_block size first t o n l
