use Rattle.c_phrases.specs.Classes.{seen}
use Rattle.c_syntax.proofs.Closing.{storage_none, storage_register, storage_static}
use Rattle.c_syntax.proofs.statements.storage.Goals as goal

pub returns-in-Some-clause-leads : goal.returns-in-Some-clause-leads
returns-in-Some-clause-leads c = storage_static c.in-Some.at (seen c.args.tokens.now) (seen c.in-Some.rest.now) c.in-Some.ensures.found

pub returns-in-Some-take_key-clause-leads : goal.returns-in-Some-take_key-clause-leads
returns-in-Some-take_key-clause-leads c = storage_register c.in-Some-take_key.at (seen c.args.tokens.now) (seen c.in-Some-take_key.rest.now) c.in-Some-take_key.ensures.found

pub returns-clause-leads : goal.returns-clause-leads
returns-clause-leads c = storage_none (seen c.args.tokens.now) c.in_default.ensures.none c.in_default-take_key.ensures.none
