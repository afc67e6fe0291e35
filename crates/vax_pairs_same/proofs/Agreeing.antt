-- Equal terms agree.
use Rattle.std.proofs.Common.{◌≡◌, ap}
use Rattle.term_core.specs.Shape.{Shape}
use Rattle.vax_pairs.specs.Events.{worth}
use Rattle.vax_pairs.specs.SameTrees.{Agree}

pub equal_agree : (s t : Shape) → s ≡ t → Agree s t
equal_agree s t e env small = ap (λ (x : Shape). worth env x) e
