-- The normal form of a term, from the parts upwards: of normal parts each operator makes a normal term by the first equation that fits.
use Rattle.std.specs.Prelude.{List}
use Rattle.term_core.specs.declared.facts.Fact.{Fact}
use Rattle.term_core.specs.Facts.{same_as}
use Rattle.term_core.specs.Shape.{Shape, Constant, Symbol, LastResult, Memory, Unary, Binary}
use Rattle.term_core.specs.NormUnary.{make_unary}
use Rattle.term_core.specs.NormBinary.{make_binary}

abbrev pub norm : List Fact → Shape → Shape
norm facts (Constant n) = Constant n
norm facts (Symbol i) = Symbol (same_as facts i)
norm facts LastResult = LastResult
norm facts (Memory size a) = Memory size (norm facts a)
norm facts (Unary op t) = make_unary facts op (norm facts t)
norm facts (Binary op a b) = make_binary facts op (norm facts a) (norm facts b)
