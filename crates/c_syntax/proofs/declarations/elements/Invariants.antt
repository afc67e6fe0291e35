use Rattle.std.proofs.Common.{length}
use Rattle.c_phrases.specs.Classes.{seen}
use Rattle.c_phrases.specs.Shapes.{exp_list}
use Rattle.c_syntax.specs.Reads.{ArgumentsSoFar}
use Rattle.c_syntax.proofs.declarations.elements.Given as goal

abbrev pub invariant-loop-last : goal.invariant-loop-last
invariant-loop-last l = ArgumentsSoFar l.fn.level (seen l.fn.tokens) (exp_list l.items.items) (seen l.rest)

abbrev pub decreases-loop-last : goal.decreases-loop-last
decreases-loop-last l = length (seen l.rest)
