use Rattle.std.proofs.Common.{length}
use Rattle.c_phrases.specs.Classes.{seen}
use Rattle.c_phrases.specs.UnitShapes.{externals_of}
use Rattle.c_syntax.specs.Stands.{ReadsExternals}
use Rattle.c_syntax.proofs.Closing.{WholeLeads}
use Rattle.c_syntax.proofs.units.unit.Given as goal

abbrev pub invariant-loop-end : goal.invariant-loop-end
invariant-loop-end l = ReadsExternals (seen l.fn.tokens) (externals_of l.externals.items) (seen l.rest) × WholeLeads (seen l.fn.tokens) (seen l.rest)

abbrev pub decreases-loop-end : goal.decreases-loop-end
decreases-loop-end l = length (seen l.rest)
