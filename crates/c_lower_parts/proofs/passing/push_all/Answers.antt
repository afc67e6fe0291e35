use Rattle.std.proofs.Common.{◌≡◌, ◌++◌, ◌∷◌, [], subst, ap, ◌∙◌}
use Rattle.std.proofs.lemmas.List.{map_push}
use Rattle.std.specs.Iterator.Adapters.{rev_source}
use Rattle.std.specs.Vec.Iter.{into_iter_items}
use Rattle.c_lower_scheme.specs.Calls.{pushes}
use Rattle.c_lower_parts.specs.Views.{tree, all_items, all_trees}
use Rattle.c_lower_parts.proofs.Pushing.{pushed}
use Rattle.c_lower_parts.proofs.passing.push_all.Goals as goal

pub loop-tree-preserved : goal.loop-tree-preserved
loop-tree-preserved c =
    let left = into_iter_items (rev_source c.loop-tree.tree-iterator) in
    let behind = into_iter_items (rev_source c.next.new.self) in
    let split : all_trees left ≡ all_trees behind ++ (tree c.in-Some.tree ∷ []) = ap all_trees c.in-Some.ensures.steps ∙ map_push tree behind c.in-Some.tree in
    pushed (all_items c.args.items.now.items) (all_items c.loop-tree.items.items) (all_items c.put.new.items.items) (all_trees c.args.trees.items) (all_trees behind) (tree c.in-Some.tree)
    (subst (λ l. all_items c.loop-tree.items.items ++ pushes l [] ≡ all_items c.args.items.now.items ++ pushes (all_trees c.args.trees.items) []) split c.loop-tree.invariant)
    c.in_ok-put.ensures
