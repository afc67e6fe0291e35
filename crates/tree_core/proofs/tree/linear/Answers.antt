use Rattle.std.proofs.Common.{List, ◌∷◌, ◌++◌, [], sym, ◌∙◌, ap}
use Rattle.std.specs.Borrow.{Bor}
use Rattle.tree_core.specs.declared.tree.Leaf.{Leaf}
use Rattle.tree_core.specs.declared.tree.Tree.{Tree, out-Tree}
use Rattle.tree_core.specs.Attributes.{end_leaf}
use Rattle.tree_core.proofs.Planting.{begun, gathered, none_waits, none_waits_works, one_waits, one_waits_works, Taken}
use Rattle.tree_core.proofs.tree.linear.Goals as goal

pub loop-trees-init : goal.loop-trees-init
loop-trees-init c =
    begun c.args.tree.now c.push.new.self.items c.push-2.new.self.items c.deref.result (end_leaf ∷ []) (rw c.new-leaves.ensures.items at c.in_ok-push.ensures.items)
    (rw c.new-waiting.ensures.items at c.in_ok-push-2.ensures.items) c.deref.ensures.value

taken : (c : goal.In_ok-push-5) → Taken c.loop-trees.waiting.items c.pop.new.self.items c.push-in-Some-split_first-3.new.self.items c.in-Some.trees c.in-Some-split_first.others
    c.deref-in-Some-split_first.result c.in-Some-split_first.first.now
taken c = record {
  last = c.in-Some.ensures.items;
  split = c.in-Some-split_first.ensures.cases.0;
  kids = c.deref-in-Some-split_first.ensures.value;
  new_is = c.in_ok-push-5.ensures.items ∙ ap (λ (q : List (Bor (List Tree))). q ++ c.deref-in-Some-split_first.result ∷ []) c.in_ok-push-4.ensures.items;
}

pub loop-trees-smaller-in-Continue-branch-5 : goal.loop-trees-smaller-in-Continue-branch-5
loop-trees-smaller-in-Continue-branch-5 c =
    one_waits_works c.loop-trees.waiting.items c.pop.new.self.items c.push-in-Some-split_first-3.new.self.items c.in-Some.trees c.in-Some-split_first.others
    c.deref-in-Some-split_first.result c.in-Some-split_first.first.now (taken c)

pub loop-trees-preserved-in-Continue-branch-5 : goal.loop-trees-preserved-in-Continue-branch-5
loop-trees-preserved-in-Continue-branch-5 c =
    gathered c.loop-trees.leaves.items c.push-in-Some-split_first.new.self.items _ (end_leaf ∷ []) c.loop-trees.waiting.items c.push-in-Some-split_first-3.new.self.items
    (out-Tree c.in-Some-split_first.first.now).leaf c.in_ok-push-3.ensures.items
    (one_waits c.loop-trees.waiting.items c.pop.new.self.items c.push-in-Some-split_first-3.new.self.items c.in-Some.trees c.in-Some-split_first.others
    c.deref-in-Some-split_first.result c.in-Some-split_first.first.now (end_leaf ∷ []) (taken c)) c.loop-trees.invariant

pub loop-trees-smaller : goal.loop-trees-smaller
loop-trees-smaller c = none_waits_works c.loop-trees.waiting.items c.pop.new.self.items c.in-Some.trees c.in-Some.ensures.items

pub loop-trees-preserved : goal.loop-trees-preserved
loop-trees-preserved c =
    ap (λ (q : List Leaf). c.loop-trees.leaves.items ++ q) (sym (none_waits c.loop-trees.waiting.items c.pop.new.self.items c.in-Some.trees (end_leaf ∷ []) c.in-Some.ensures.items
    c.in_default-split_first.ensures.cases)) ∙ c.loop-trees.invariant
