use Rattle.std.proofs.Common.{ℕ, Contains}
use Rattle.lr_check_found.proofs.Below.{Below}
use Rattle.lr_check_complete.specs.Looks.{automaton, Looks}
use Rattle.lr_check_complete.specs.Kids.{TwoKids, SecondAt, AtPlaces}
use Rattle.lr_check_complete.proofs.look.Look.all_seconds.Given as goal

abbrev pub invariant-loop-sum : goal.invariant-loop-sum
invariant-loop-sum l =
    ((i : ℕ) → Contains l.sums i → AtPlaces l.self.found.now l.numbers (λ n x. TwoKids (automaton l.self) l.self.found.now n x l.token i)) →
    Looks l.self l.fn.into.items l.into.items
    (Below l.sums l.sum-index (λ i. AtPlaces l.self.found.now l.numbers (λ n x. SecondAt l.self.found.now n x l.token i)))
