use Rattle.std.proofs.Common.{◌≡◌, ℕ, [], ◌∷◌}
use Rattle.tree_core.specs.declared.token.Tok.{Tok}
use Rattle.tree_core.specs.Grammar.{kids}
use Rattle.lr_check_found.specs.declared.places.Place.{Place}
use Rattle.lr_check_found.specs.Found.{IsPlaceAt}
use Rattle.lr_check_found.proofs.Below.{Below}
use Rattle.lr_check_complete.specs.Looks.{automaton, Looks}
use Rattle.lr_check_complete.specs.Kids.{OnlyIn, IsFrame}
use Rattle.lr_check_complete.proofs.look.Look.onlys.Given as goal

abbrev pub invariant-loop-number : goal.invariant-loop-number
invariant-loop-number l =
    (q : ℕ) (k : Tok) → IsFrame (automaton l.self) l.self.found.now q k l.over l.numbers → kids k ≡ l.wanted ∷ [] →
    Looks l.self l.fn.into.items l.into.items (Below l.numbers l.number-index (λ n. (x : Place) → IsPlaceAt l.self.found.now n x → OnlyIn l.self.found.now n x l.over l.wanted))
