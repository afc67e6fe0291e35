use Rattle.std.proofs.Common.{length}
use Rattle.c_phrases.specs.Classes.{seen}
use Rattle.c_phrases.specs.UnitShapes.{param_list}
use Rattle.c_syntax.specs.Stands.{ParamsSoFar}
use Rattle.c_syntax.specs.StatementLeads.{ParamsLead}
use Rattle.c_syntax.proofs.units.param_list.Given as goal

abbrev pub invariant-loop-after : goal.invariant-loop-after
invariant-loop-after l = ParamsSoFar l.fn.level (seen l.fn.tokens) (param_list l.list.items) (seen l.rest) × ParamsLead l.fn.level (seen l.fn.tokens) (seen l.rest)

abbrev pub decreases-loop-after : goal.decreases-loop-after
decreases-loop-after l = length (seen l.rest)
