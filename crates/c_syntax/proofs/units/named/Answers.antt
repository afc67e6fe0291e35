use Rattle.std.proofs.Common.{rules}
use Rattle.c_phrases.specs.Classes.{seen}
use Rattle.c_syntax.proofs.Closing.{named_none, named_some}
use Rattle.c_syntax.proofs.units.named.Goals as goal

pub returns-in-Some-clause-leads : goal.returns-in-Some-clause-leads
returns-in-Some-clause-leads c = λ n. named_some n c.in-Some.at c.in-Some.name (seen c.args.tokens.now) (seen c.in-Some.rest.now) (search rules)

pub returns-in-None-clause-leads : goal.returns-in-None-clause-leads
returns-in-None-clause-leads c = λ n. named_none n (seen c.args.tokens.now) (search rules)
