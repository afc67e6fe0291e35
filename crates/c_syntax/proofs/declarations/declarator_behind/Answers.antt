use Rattle.std.proofs.lemmas.Result.{err_from_is_err_and}
use Rattle.c_phrases.specs.Classes.{seen}
use Rattle.c_phrases.specs.UnitShapes.{initialised_of, length_of}
use Rattle.c_syntax.proofs.Closing.{behind_init_err, behind_leads, behind_length_err}
use Rattle.c_syntax.proofs.declarations.declarator_behind.Goals as goal

pub returns-in_err-length-clause-fails : goal.returns-in_err-length-clause-fails
returns-in_err-length-clause-fails c =
    let p = err_from_is_err_and c.from_residual.result c.from_residual.ensures.1 in
    rw (p.1, p.2) (behind_length_err c.args.stars c.args.name c.args.at c.args.level (seen c.args.tokens.now) c.in_err-length.field-0.0 c.in_err-length.ensures.fails)

pub returns-in_err-initialiser-clause-fails : goal.returns-in_err-initialiser-clause-fails
returns-in_err-initialiser-clause-fails c =
    let p = err_from_is_err_and c.from_residual-in_err-initialiser.result c.from_residual-in_err-initialiser.ensures.1 in
    rw (p.1, p.2) (behind_init_err c.args.stars c.args.name c.args.at c.args.level (seen c.args.tokens.now) (seen c.in_ok-length.rest.now) (length_of c.in_ok-length.length)
    c.in_err-initialiser.field-0.0 c.in_ok-length.ensures.leads c.in_err-initialiser.ensures.fails)

pub returns-clause-leads : goal.returns-clause-leads
returns-clause-leads c = behind_leads c.args.stars c.args.name c.args.at c.args.level (seen c.args.tokens.now) (seen c.in_ok-length.rest.now) (seen c.in_ok-initialiser.rest.now)
    (length_of c.in_ok-length.length) (initialised_of c.in_ok-initialiser.initialiser) c.in_ok-length.ensures.leads c.in_ok-initialiser.ensures.leads
