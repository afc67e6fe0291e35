use Rattle.std.proofs.Common.{◌≡◌, map}
use Rattle.l32_templates.specs.Filled.{filled}
use Rattle.l32_target.proofs.filling.Filling.operands.Given as goal

abbrev pub invariant-loop-form : goal.invariant-loop-form
invariant-loop-form l = l.operands ≡ map (filled l.self.program.now l.self.holes.now l.self.zero.now) (map (λ y. y.now) l.yielded)
