use Rattle.tree_core.specs.declared.token.Sort.{Sort}
use Rattle.lr_check_found.specs.lr_check_sets.specs.Trees.{May}
use Rattle.lr_check_found.specs.declared.places.Place.{Place}
use Rattle.lr_check_found.specs.Found.{place_of, IsPlaceAt}
use Rattle.lr_check_found.specs.Items.{HasTwo}
use Rattle.lr_check_found.proofs.Below.{Below}
use Rattle.lr_check_complete.specs.Looks.{automaton, Looks}
use Rattle.lr_check_complete.specs.Firsts.{FirstAt}
use Rattle.lr_check_complete.proofs.Gaining.{AreFirstSums}
use Rattle.lr_check_complete.proofs.look.Look.firsts.Given as goal

abbrev pub invariant-loop-token : goal.invariant-loop-token
invariant-loop-token l = record {
  looks : (x : Place) (second : Sort) → IsPlaceAt l.self.found.now l.parent x → HasTwo (automaton l.self) x l.wanted second l.over → May l.behind second →
      Looks l.self l.fn.into.items l.into.items (Below l.token-items l.token-index (λ t. May t l.wanted → FirstAt l.self.found.now (place_of l.over t l.behind) l.sums.items));
  sums : AreFirstSums l.self.found.now l.over l.wanted l.behind l.sums.items;
}
