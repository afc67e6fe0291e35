-- That normal forms are settled: no equation changes any part of one.
use Rattle.std.specs.Prelude.{◌≡◌, List}
use Rattle.term_core.specs.declared.facts.Fact.{Fact}
use Rattle.term_core.specs.Shape.{Shape}
use Rattle.term_core.specs.Equations.{Reaches}
use Rattle.term_core.specs.Norm.{norm}
use Rattle.term_core.specs.Normal.{IsNormal, AreSettled}

-- what equations reach from a normal term is that term
abbrev pub NormalIsSettled : Type 0
NormalIsSettled = (facts : List Fact) (s t : Shape) → IsNormal facts s → Reaches facts s t → t ≡ s

-- what equations reach from a normal form is that form
abbrev pub NormIsSettled : Type 0
NormIsSettled = (facts : List Fact) (s t : Shape) → AreSettled facts → Reaches facts (norm facts s) t → t ≡ norm facts s
