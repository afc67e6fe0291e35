use Rattle.std.proofs.Common.{◌+◌, ◌*◌, ◌-◌, length}
use Rattle.c_phrases.specs.Classes.{seen}
use Rattle.c_phrases.specs.UnitShapes.{items_of}
use Rattle.c_syntax.specs.Stands.{ReadsItems}
use Rattle.c_syntax.specs.StatementLeads.{ItemsLead}
use Rattle.c_syntax.proofs.statements.+statement.Given as goal

abbrev pub decreases-statement : goal.decreases-statement
decreases-statement l = (200 - l.level) * 4 + 0

abbrev pub decreases-if_behind : goal.decreases-if_behind
decreases-if_behind l = (200 - l.level) * 4 + 1

abbrev pub decreases-while_behind : goal.decreases-while_behind
decreases-while_behind l = (200 - l.level) * 4 + 1

abbrev pub decreases-do_behind : goal.decreases-do_behind
decreases-do_behind l = (200 - l.level) * 4 + 1

abbrev pub decreases-for_behind : goal.decreases-for_behind
decreases-for_behind l = (200 - l.level) * 4 + 1

abbrev pub decreases-item : goal.decreases-item
decreases-item l = (200 - l.level) * 4 + 1

abbrev pub decreases-items : goal.decreases-items
decreases-items l = (200 - l.level) * 4 + 2

abbrev pub invariant-items-loop-last : goal.invariant-items-loop-last
invariant-items-loop-last l = ReadsItems l.fn.level (seen l.fn.tokens) (items_of l.list.items) (seen l.rest) × ItemsLead l.fn.level (seen l.fn.tokens) (seen l.rest)

abbrev pub decreases-items-loop-last : goal.decreases-items-loop-last
decreases-items-loop-last l = length (seen l.rest)
