use Rattle.std.proofs.Common.{rules, ◌≡◌, ◌∙◌, map}
use Rattle.std.proofs.lemmas.Iterator.{YieldsList-from_slice, YieldsList-from_map, items_from_collect}
use Rattle.std.proofs.lemmas.Result.{IfOk-at_ok}
use borrow.Author.Tests.{tests}
use Rattle.c_phrases.specs.declared.tree.Param.{Param}
use Rattle.c_phrases.specs.UnitShapes.{param_of}
use Rattle.c_types.specs.declared.types.CType.{CType}
use Rattle.c_typed_definition.specs.Signatures.{parameter_type}
use Rattle.c_typed_statements.proofs.Parameters.{types_written}
use Rattle.c_typed_statements.proofs.signatures.parameter_types.Goals as goal

abbrev type_of : Param → CType
type_of p = parameter_type (param_of p)

pub returns : goal.returns
returns c =
    let params = c.args.params.now in
    let kept = items_from_collect c.collect.result c.collect.ensures.ran
    (YieldsList-from_map _ type_of (YieldsList-from_slice params cc) c.map.ensures.closure (λ x r q k. search (rules, tests))) in
    c.from_vec.ensures ∙ (IfOk-at_ok (λ v. v.items ≡ map type_of params) c.in_ok-types.was kept ∙ types_written params)
