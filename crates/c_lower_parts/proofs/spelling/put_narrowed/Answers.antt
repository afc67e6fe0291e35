use Rattle.std.proofs.lemmas.Result.{IfOk-weaker}
use Rattle.c_lower_scheme.specs.Spelling.{plain}
use Rattle.c_lower_parts.specs.Views.{tree}
use Rattle.c_lower_parts.proofs.Onto.{narrowed_behind}
use Rattle.c_lower_parts.proofs.spelling.put_narrowed.Goals as goal

pub returns : goal.returns
returns c =
    IfOk-weaker _ _ _ (λ _ last. narrowed_behind c.args.leaves.now.items c.put_two.new.leaves.items c.put_tree.new.leaves.items c.put_plain.new.leaves.items c.put_tree-2.new.leaves.items
    (plain c.args.root) (plain c.args.place) (plain c.args.narrow) (tree c.args.a.now) (tree c.args.w.now) c.in_ok-put_two.ensures c.in_ok-put_tree.ensures c.in_ok-put_plain.ensures
    last) c.put_tree-2.ensures
