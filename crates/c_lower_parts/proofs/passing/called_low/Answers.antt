use Rattle.std.proofs.Common.{sym, ◌∙◌}
use Rattle.std.proofs.lemmas.List.{length-map}
use Rattle.c_lower_parts.specs.Views.{tree, all_items, all_trees}
use Rattle.c_lower_parts.proofs.Pushing.{called_saved}
use Rattle.c_lower_parts.proofs.passing.called_low.Goals as goal

pub returns : goal.returns
returns c =
    let count = c.in_ok-count.ensures.number ∙ (c.len.ensures ∙ (c.args.p.trees.ok.0 ∙ sym (length-map c.args.p.trees.items tree))) in
    called_saved (all_items c.args.p.items.items) (all_items c.push_all.new.items.items) (all_items c.put.new.items.items) (all_items c.put-2.new.items.items)
    (all_trees c.args.p.trees.items) (tree c.in_ok-tree.tree.value) c.args.f c.in_ok-count.count c.args.p.free.temps c.in_ok-temps.temps c.args.p.free.labels c.args.p.is_quiet
    c.in_ok-temps.ensures count c.in_ok-push_all.ensures c.in_ok-put.ensures c.in_ok-put-2.ensures c.in_ok-tree.ensures
