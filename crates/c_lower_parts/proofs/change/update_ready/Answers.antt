use Rattle.std.proofs.Common.{ap, not}
use Rattle.c_lower_parts.specs.Views.{low, found, storage, tree, all_items}
use Rattle.c_lower_parts.specs.Changes.{applied}
use Rattle.c_lower_parts.proofs.Changing.{updated}
use Rattle.c_lower_parts.proofs.change.update_ready.Goals as goal

pub returns : goal.returns
returns c =
    updated c.args.frame.locals c.args.frame.functions (applied c.args.change c.args.p.ctype) (found c.args.p) (low c.args.q) c.must_keep-is_held.result
    (not c.is_nil-is_saved.result) c.in_ok-next.next c.in_ok-temps.temps (storage c.in_ok-storage.storage) (storage c.in_ok-copied.field-0) (tree c.in_ok-old.old.value)
    (tree c.in_ok-old-2.old.value) (tree c.in_ok-value.value.value) (all_items c.put_held.new.items.items) (all_items c.put_saved.new.items.items)
    (all_items c.put_all.new.items.items) c.must_keep-is_held.ensures (ap not c.is_nil-is_saved.ensures) c.in_ok-next.ensures c.in_ok-temps.ensures c.in_ok-storage.ensures.storage
    c.in_ok-storage.ensures.items c.in_ok-copied.ensures c.in_ok-old.ensures c.in_ok-old-2.ensures.tree c.in_ok-old-2.ensures.items c.in_ok-put_all.ensures c.in_ok-value.ensures
