use Rattle.c_phrases.specs.Classes.{seen}
use Rattle.c_syntax.proofs.Closing.{spec_none, spec_unsigned}
use Rattle.c_syntax.proofs.Exits.{err_map}
use Rattle.c_syntax.proofs.types.spec.Goals as goal

pub returns-in-Some-take_key-4-clause-fails : goal.returns-in-Some-take_key-4-clause-fails
returns-in-Some-take_key-4-clause-fails c = λ n. err_map c.unsigned.result _ _
    (λ f h. spec_unsigned c.in-Some-take_key-4.at n (seen c.args.tokens.now) (seen c.in-Some-take_key-4.rest.now) f c.in-Some-take_key-4.ensures.found h) (c.unsigned.ensures.fails n)

pub returns-clause-fails : goal.returns-clause-fails
returns-clause-fails c = λ n. spec_none n (seen c.args.tokens.now) c.not_here.result c.not_here.ensures c.in_default.ensures.none c.in_default-take_key.ensures.none
    c.in_default-take_key-2.ensures.none c.in_default-take_key-3.ensures.none c.in_default-take_key-4.ensures.none
