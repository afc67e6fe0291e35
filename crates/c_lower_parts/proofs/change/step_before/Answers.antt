use Rattle.std.proofs.Common.{rules, ap, ◌∙◌}
use Rattle.c_lower_parts.specs.Views.{found, storage, tree, item, all_items}
use Rattle.c_lower_scheme.specs.Assignments.{step_tree, must_keep}
use Rattle.c_lower_parts.proofs.Changing.{stepped}
use Rattle.c_lower_parts.proofs.change.step_before.Goals as goal

pub returns : goal.returns
returns c =
    stepped c.args.frame.locals c.args.frame.functions (step_tree c.args.frame.locals c.args.frame.functions c.args.by c.args.p.ctype) (found c.args.p)
    c.must_keep-is_held.result c.in_ok-kept.kept c.in_ok-temps.temps (storage c.in_ok-storage.storage) (storage c.in_ok-copied.field-0) (tree c.into_inner.result)
    (tree c.in_ok-new.new.value) (tree c.in_ok-tree.tree.value) (item c.in_ok-assign_to.field-0) (all_items c.put_held.new.items.items) (all_items c.put.new.items.items)
    (all_items c.put-2.new.items.items)
    (c.must_keep-is_held.ensures ∙ ap (λ xs. must_keep c.args.frame.locals c.args.frame.functions (all_items xs) (storage c.args.p.storage)) c.new-none.ensures.items)
    c.in_ok-kept.ensures c.in_ok-temps.ensures c.in_ok-storage.ensures.storage c.in_ok-storage.ensures.items c.in_ok-copied.ensures
    (ap tree c.into_inner.ensures ∙ c.in_ok-old.ensures) c.in_ok-put.ensures (search rules) c.in_ok-assign_to.ensures c.in_ok-put-2.ensures c.in_ok-tree.ensures
