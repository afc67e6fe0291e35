use Rattle.std.proofs.Common.{◌∙◌, reverse, rules, tests}
use Rattle.std.proofs.lemmas.Iterator.Adapters.{YieldsList-from_rev_slice}
use Rattle.gg_base.proofs.Mapping.{found_first}
use Rattle.c_typed_scope.specs.Scopes.{find}
use Rattle.c_typed_scope.proofs.Innermost.{inner_reversed}
use Rattle.c_typed_scope.proofs.scope.find_outer.Goals as goal

pub returns : goal.returns
returns c =
    let blocks = c.args.blocks.now in
    let name = c.args.name.now in
    found_first _ _ _ _ (λ b. find b name) (λ x r q k. search (rules, tests)) c.find_map.result _ _ (reverse blocks) (YieldsList-from_rev_slice blocks cc).runs
    c.find_map.ensures.ran c.find_map.ensures.runs
    ∙ inner_reversed blocks name
