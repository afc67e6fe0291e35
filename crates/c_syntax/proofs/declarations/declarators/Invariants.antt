use Rattle.std.proofs.Common.{length}
use Rattle.c_phrases.specs.Classes.{seen}
use Rattle.c_phrases.specs.UnitShapes.{declarator_of, declarators_of}
use Rattle.c_phrases.specs.UnitSpelling.{onto_declarator}
use Rattle.c_syntax.specs.Stands.{DeclaratorsSoFar}
use Rattle.c_syntax.specs.StatementLeads.{MoreLeads}
use Rattle.c_syntax.proofs.declarations.declarators.Given as goal

abbrev pub invariant-loop-last : goal.invariant-loop-last
invariant-loop-last l = DeclaratorsSoFar l.fn.level (onto_declarator (declarator_of l.fn.first) (seen l.fn.tokens)) (declarators_of l.list.items) (seen l.rest)
    × MoreLeads l.fn.level (seen l.fn.tokens) (seen l.rest)

abbrev pub decreases-loop-last : goal.decreases-loop-last
decreases-loop-last l = length (seen l.rest)
