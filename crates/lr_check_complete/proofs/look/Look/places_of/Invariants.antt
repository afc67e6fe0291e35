use Rattle.lr_check_complete.proofs.Framing.{Places}
use Rattle.lr_check_complete.proofs.look.Look.places_of.Given as goal

abbrev pub invariant-loop-behind : goal.invariant-loop-behind
invariant-loop-behind l = Places l.self.found.now l.state l.token l.behind-items l.behind-index l.numbers.items
