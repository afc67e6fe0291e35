use Rattle.std.proofs.Common.{◌≡◌, Some}
use Rattle.lr_check_found.specs.declared.places.Place.{Place}
use Rattle.lr_check_found.specs.declared.settlings.Settling.{Settling}
use Rattle.lr_check_found.specs.Found.{IsPlaceAt, IsSettlingAt}
use Rattle.lr_check_found.proofs.Below.{Below}
use Rattle.lr_check_complete.specs.Looks.{automaton, Looks}
use Rattle.lr_check_complete.specs.Kids.{TwoKids, SecondAt, AtPlaces}
use Rattle.lr_check_complete.proofs.look.Look.seconds_at.Given as goal

abbrev pub invariant-loop-number : goal.invariant-loop-number
invariant-loop-number l =
    (e : Settling) → IsSettlingAt l.self.found.now l.first e → e.behind ≡ Some l.behind →
    AtPlaces l.self.found.now l.numbers (λ n x. TwoKids (automaton l.self) l.self.found.now n x l.token l.first) →
    Looks l.self l.fn.into.items l.into.items (Below l.numbers l.number-index (λ n. (x : Place) → IsPlaceAt l.self.found.now n x → SecondAt l.self.found.now n x l.token l.first))
