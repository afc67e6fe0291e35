use Rattle.std.proofs.lemmas.Result.{err_from_is_err_and}
use Rattle.c_phrases.specs.Classes.{seen}
use Rattle.c_phrases.specs.Shapes.{exp}
use Rattle.c_syntax.proofs.Closing.{break_semi, compute_err, compute_semi, continue_semi, return_err}
use Rattle.c_syntax.proofs.Exits.{err_map}
use Rattle.c_syntax.proofs.statements.simple.Goals as goal

pub returns-in_err-rest-clause-fails : goal.returns-in_err-rest-clause-fails
returns-in_err-rest-clause-fails c =
    let p = err_from_is_err_and c.from_residual.result c.from_residual.ensures.1 in
    rw (p.1, p.2) (break_semi c.args.level c.in-Some-take_key.at (seen c.args.tokens.now) (seen c.in-Some-take_key.after.now) c.in_err-rest.field-0.0 c.in-Some-take_key.ensures.found
    c.in_err-rest.ensures.other)

pub returns-in_err-rest-2-clause-fails : goal.returns-in_err-rest-2-clause-fails
returns-in_err-rest-2-clause-fails c =
    let p = err_from_is_err_and c.from_residual-in_err-rest-2.result c.from_residual-in_err-rest-2.ensures.1 in
    rw (p.1, p.2) (continue_semi c.args.level c.in-Some-take_key-2.at (seen c.args.tokens.now) (seen c.in-Some-take_key-2.after.now) c.in_err-rest-2.field-0.0
    c.in-Some-take_key-2.ensures.found c.in_err-rest-2.ensures.other)

pub returns-in-Some-take_key-3-clause-fails : goal.returns-in-Some-take_key-3-clause-fails
returns-in-Some-take_key-3-clause-fails c = err_map c.returned.result _ _
    (λ f h. return_err c.args.level c.in-Some-take_key-3.at (seen c.args.tokens.now) (seen c.in-Some-take_key-3.after.now) f c.in-Some-take_key-3.ensures.found h) c.returned.ensures.fails

pub returns-in_err-value-clause-fails : goal.returns-in_err-value-clause-fails
returns-in_err-value-clause-fails c =
    let p = err_from_is_err_and c.from_residual-in_err-value.result c.from_residual-in_err-value.ensures.1 in
    rw (p.1, p.2) (compute_err c.args.level (seen c.args.tokens.now) c.in_err-value.field-0.0
    (record {
      no_semi = c.in_default.ensures.none;
      no_break = c.in_default-take_key.ensures.none;
      no_continue = c.in_default-take_key-2.ensures.none;
      no_return =
          c.in_default-take_key-3.ensures.none;
    }) c.in_err-value.ensures.fails)

pub returns-in_err-rest-3-clause-fails : goal.returns-in_err-rest-3-clause-fails
returns-in_err-rest-3-clause-fails c =
    let p = err_from_is_err_and c.from_residual-in_err-rest-3.result c.from_residual-in_err-rest-3.ensures.1 in
    rw (p.1, p.2) (compute_semi c.args.level c.in_ok-value.field-0-2 (seen c.args.tokens.now) (seen c.in_ok-value.rest.now) (exp c.in_ok-value.value.value) c.in_err-rest-3.field-0.0
    (record {
      no_semi = c.in_default.ensures.none;
      no_break = c.in_default-take_key.ensures.none;
      no_continue = c.in_default-take_key-2.ensures.none;
      no_return =
          c.in_default-take_key-3.ensures.none;
    }) c.in_ok-value.ensures.read c.in_err-rest-3.ensures.other)
