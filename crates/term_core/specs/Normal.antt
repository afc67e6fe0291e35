-- What is normal: each symbol stands for those that are spelled like it, and building a part again changes nothing.
use Rattle.std.specs.Prelude.{◌≡◌, ℕ, List}
use Rattle.term_core.specs.declared.facts.Fact.{Fact}
use Rattle.term_core.specs.Facts.{same_as}
use Rattle.term_core.specs.Shape.{Shape, Constant, Symbol, LastResult, Memory, Unary, Binary}
use Rattle.term_core.specs.NormUnary.{make_unary}
use Rattle.term_core.specs.NormBinary.{make_binary}

abbrev pub IsNormal : List Fact → Shape → Type 0
IsNormal facts (Constant n) = Unit {0}
IsNormal facts (Symbol i) = same_as facts i ≡ i
IsNormal facts LastResult = Unit {0}
IsNormal facts (Memory size a) = IsNormal facts a
IsNormal facts (Unary op t) = IsNormal facts t × (make_unary facts op t ≡ Unary op t)
IsNormal facts (Binary op a b) = IsNormal facts a × IsNormal facts b × (make_binary facts op a b ≡ Binary op a b)

-- the least symbol that is spelled like another one is spelled like no lesser one
abbrev pub AreSettled : List Fact → Type 0
AreSettled facts = (i : ℕ) → same_as facts (same_as facts i) ≡ same_as facts i
