use Rattle.std.proofs.Common.{◌∙◌, ap, List, ℕ}
use Rattle.tree_core.specs.Valid.{named}
use Rattle.tree_core.proofs.Elements.{names_clash}
use Rattle.tree_core.proofs.names.are_settled.Goals as goal

pub returns-then-count_named-ne1-clause-clash : goal.returns-then-count_named-ne1-clause-clash
returns-then-count_named-ne1-clause-clash c =
    names_clash c.args.functions.now c.loop-function.function-index c.function-item.result c.loop-function-test.true c.function-item.is
    (λ e. c.if-count_named-ne1.true (c.count_named.ensures ∙ ap (λ (n : List ℕ). named n c.args.functions.now) c.as_slice-name.ensures ∙ e))
