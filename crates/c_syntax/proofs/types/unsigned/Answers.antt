use Rattle.c_phrases.specs.Classes.{seen}
use Rattle.c_syntax.proofs.Closing.{unsigned_none}
use Rattle.c_syntax.proofs.types.unsigned.Goals as goal

pub returns-clause-fails : goal.returns-clause-fails
returns-clause-fails c = λ n. unsigned_none c.args.at n (seen c.args.tokens.now) c.not_here.result c.not_here.ensures c.in_default.ensures.none c.in_default-take_key.ensures.none
