use Rattle.c_phrases.specs.Classes.{seen}
use Rattle.c_syntax.proofs.Closing.{local_as_type}
use Rattle.c_syntax.proofs.statements.begins_local.Goals as goal

pub returns : goal.returns
returns c = local_as_type c.begins_type.result (seen c.args.tokens.now) c.in_default.ensures.none c.in_default-take_key.ensures.none c.begins_type.ensures
