use Rattle.std.proofs.Common.{◌≡◌, Option, Some, None, rules, ap, sym, subst, ◌∙◌}
use Rattle.std.proofs.lemmas.Iterator.{YieldsList-from_slice, YieldsList-from_zip}
use Rattle.std.proofs.lemmas.Iterator.Adapters.{position_from-zero}
use Rattle.std.proofs.lemmas.Iterator.Search.{position_from_yields_List}
use Rattle.std.specs.List.{zip}
use borrow.Author.Tests.{tests}
use Rattle.c_phrases.specs.declared.tree.Expr.{Expr}
use Rattle.c_phrases.specs.Shapes.{exp, exp_list}
use Rattle.c_types.specs.Typed.{expressions_of}
use Rattle.c_typed_expressions.specs.Phrases.{first}
use Rattle.c_typed_expressions.specs.Calls.{unfit}
use Rattle.c_typed_expressions.proofs.Rows.{is_unfit, Placed, unfit_placed}
use Rattle.c_typed_expressions.proofs.phrase.unfit.Goals as goal

pub returns-in_err-number : goal.returns-in_err-number
returns-in_err-number c =
    let wanted = unfit c.args.parameters.now (exp_list c.args.arguments.now) (expressions_of c.args.xs.now) in
    let placed : Placed c.args.arguments.now c.position.result wanted =
    unfit_placed c.args.parameters.now c.args.arguments.now c.args.xs.now c.position.result
    (position_from_yields_List {s = c.zip.result} is_unfit c.position.new.self _ c.position.result c.position.ensures.ran
    (YieldsList-from_zip (YieldsList-from_slice c.args.parameters.now cc) (YieldsList-from_slice c.args.xs.now cc)) (λ x b q k. search (rules, tests))
    ∙ position_from-zero is_unfit (zip c.args.parameters.now c.args.xs.now)) c.requires.same c.requires.typed in
    let none : c.position.result ≡ None = search rules in
    let is : c.from_residual.result ≡ None = search rules in
    is ∙ sym (subst (λ (o : Option _). Placed c.args.arguments.now o wanted) none placed)

pub returns : goal.returns
returns c =
    let wanted = unfit c.args.parameters.now (exp_list c.args.arguments.now) (expressions_of c.args.xs.now) in
    let placed : Placed c.args.arguments.now c.position.result wanted =
    unfit_placed c.args.parameters.now c.args.arguments.now c.args.xs.now c.position.result
    (position_from_yields_List {s = c.zip.result} is_unfit c.position.new.self _ c.position.result c.position.ensures.ran
    (YieldsList-from_zip (YieldsList-from_slice c.args.parameters.now cc) (YieldsList-from_slice c.args.xs.now cc)) (λ x b q k. search (rules, tests))
    ∙ position_from-zero is_unfit (zip c.args.parameters.now c.args.xs.now)) c.requires.same c.requires.typed in
    let at = subst (λ (o : Option _). Placed c.args.arguments.now o wanted) c.in_ok-number.was placed in
    ap Some c.first.ensures ∙ ap (λ (e : Expr). Some (first (exp e))) c.index-arguments-number.is ∙ sym (at.1 c.index-arguments-number.result)
