use Rattle.std.proofs.Common.{rules}
use Rattle.std.proofs.lemmas.Result.{IfOk-weaker}
use Rattle.c_lower_parts.specs.Views.{tree}
use Rattle.c_lower_parts.proofs.Onto.{binary_behind}
use Rattle.c_lower_parts.proofs.spelling.+put_tree.Goals as goal

pub returns-in_ok-put_tree-in-Binary : goal.returns-in_ok-put_tree-in-Binary
returns-in_ok-put_tree-in-Binary t c =
    IfOk-weaker _ _ _ (λ _ last. binary_behind c.args.leaves.now.items c.put_plain-in-Binary.new.leaves.items c.put_tree-in-Binary.new.leaves.items c.put_tree-in-Binary-2.new.leaves.items
    (tree c.args.w.now) (tree c.deref-in-Binary.result.now) (tree c.deref-in-Binary-2.result.now) c.in-Binary.op (search rules) (search rules) c.in_ok-put_tree-in-Binary.ensures last)
    c.put_tree-in-Binary-2.ensures
