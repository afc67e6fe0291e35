use Rattle.std.proofs.Common.{◌≡◌, ℕ, [], ◌∷◌}
use Rattle.tree_core.specs.declared.token.Tok.{Tok}
use Rattle.tree_core.specs.Grammar.{kids}
use Rattle.lr_check_found.specs.lr_check_sets.specs.Trees.{May}
use Rattle.lr_check_found.proofs.Below.{Below}
use Rattle.lr_check_complete.specs.Looks.{automaton, Looks}
use Rattle.lr_check_complete.specs.Kids.{FirstIn, IsFrame, AtPlaces}
use Rattle.lr_check_complete.proofs.look.Look.both.Given as goal

abbrev pub invariant-loop-token : goal.invariant-loop-token
invariant-loop-token l =
    (q : ℕ) (k : Tok) → IsFrame (automaton l.self) l.self.found.now q k l.over l.numbers → kids k ≡ l.wanted ∷ l.second ∷ [] →
    Looks l.self l.fn.into.items l.into.items
    (Below l.token-items l.token-index (λ m. May m l.second → AtPlaces l.self.found.now l.numbers (λ n x. FirstIn (automaton l.self) l.self.found.now n x l.over l.wanted m)))
