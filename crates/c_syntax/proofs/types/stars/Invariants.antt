use Rattle.std.proofs.Common.{length}
use Rattle.c_phrases.specs.Classes.{seen}
use Rattle.c_syntax.specs.Reads.{StarsSoFar}
use Rattle.c_syntax.proofs.types.stars.Given as goal

abbrev pub invariant-loop-at : goal.invariant-loop-at
invariant-loop-at l = StarsSoFar (seen l.fn.tokens) l.offsets.items (seen l.rest)

abbrev pub decreases-loop-at : goal.decreases-loop-at
decreases-loop-at l = length (seen l.rest)
