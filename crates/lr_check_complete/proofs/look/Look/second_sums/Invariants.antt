use Rattle.std.proofs.Common.{ℕ, Contains}
use Rattle.lr_check_found.specs.declared.settlings.How.TheVariants as how
use Rattle.lr_check_found.specs.Items.{HasMade}
use Rattle.lr_check_found.proofs.Below.{Below}
use Rattle.lr_check_complete.specs.Looks.{automaton, Looks}
use Rattle.lr_check_complete.specs.Kids.{TwoIn}
use Rattle.lr_check_complete.proofs.look.Look.second_sums.Given as goal

abbrev pub invariant-loop-sum : goal.invariant-loop-sum
invariant-loop-sum l =
    ((i : ℕ) → Contains l.sums i → HasMade (automaton l.self) l.self.found.now l.number (how.Two l.first i)) →
    Looks l.self l.fn.into.items l.into.items (Below l.sums l.sum-index (λ i. TwoIn l.self.found.now l.number l.token l.first i))
