use Rattle.lr_check_found.specs.lr_check_sets.specs.Trees.{May}
use Rattle.lr_check_found.specs.Found.{place_of, IsPlaceAt}
use Rattle.lr_check_found.specs.Items.{HasOne}
use Rattle.lr_check_found.proofs.Below.{Below}
use Rattle.lr_check_complete.specs.Looks.{automaton, Looks}
use Rattle.lr_check_complete.specs.Kids.{OnlyAt}
use Rattle.lr_check_complete.proofs.look.Look.only.Given as goal

abbrev pub invariant-loop-token : goal.invariant-loop-token
invariant-loop-token l =
    IsPlaceAt l.self.found.now l.number l.place → HasOne (automaton l.self) l.place l.wanted l.over →
    Looks l.self l.fn.into.items l.into.items
    (Below l.token-items l.token-index (λ t. May t l.wanted → OnlyAt l.self.found.now l.number l.place.token (place_of l.over t l.place.behind)))
