use Rattle.c_phrases.specs.Classes.{seen}
use Rattle.c_syntax.proofs.Closing.{static_none, static_some}
use Rattle.c_syntax.proofs.units.static_word.Goals as goal

pub returns-in-Some-clause-leads : goal.returns-in-Some-clause-leads
returns-in-Some-clause-leads c = static_some c.in-Some.at (seen c.args.tokens.now) (seen c.in-Some.rest.now) c.in-Some.ensures.found

pub returns-in-None-clause-leads : goal.returns-in-None-clause-leads
returns-in-None-clause-leads c = static_none (seen c.args.tokens.now) c.in-None.ensures.none
