-- A term and its normal form are worth the same.
use Rattle.std.proofs.Common.{◌≡◌, List, [], sym, refl}
use Rattle.term_core.specs.declared.facts.Fact.{Fact}
use Rattle.term_core.specs.Shape.{Shape}
use Rattle.term_core.specs.Norm.{norm}
use Rattle.term_core.specs.Equations.{Equation}
use Rattle.term_core.specs.Value.{State, value, Respects}
use Rattle.term_core.proofs.Values
use Rattle.term_core.proofs.Reaching.{norm_reached}

pub norm_keeps : (facts : List Fact) (m : State) (s : Shape) → Respects facts m → value m (norm facts s) ≡ value m s
norm_keeps facts m s respects = sym (Values.reaching_keeps m facts respects (norm_reached facts s))

nothing_respected : (m : State) → Respects [] m
nothing_respected m = record {
  bytes = λ i h. absurd (cc);
  words = λ i h. absurd (cc);
  counts = λ i h. absurd (cc);
  alike = λ i. refl;
}

pub norm_alone_keeps : (m : State) (s : Shape) → value m (norm [] s) ≡ value m s
norm_alone_keeps m s = norm_keeps [] m s (nothing_respected m)

pub equations_keep : (facts : List Fact) (m : State) (s t : Shape) → Respects facts m → Equation facts s t → value m s ≡ value m t
equations_keep facts m s t respects e = Values.equation_keeps m facts respects e
