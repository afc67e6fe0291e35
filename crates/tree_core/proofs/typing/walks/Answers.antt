use Rattle.std.proofs.Common.{◌+◌, ◌<◌, ◌^◌, List, ◌++◌, Some, refl, sym, ap, ◌∙◌, arith, subst}
use Rattle.tree_core.specs.declared.token.Sort.{Sort}
use Rattle.tree_core.specs.Wanted.{wanted_sorts, CanPush}
use Rattle.tree_core.proofs.Walking.{no_leaf, misfits, goes, ended, leaf_can_push}
use Rattle.tree_core.proofs.typing.walks.Goals as goal

pub loop-next-init : goal.loop-next-init
loop-next-init c = record { same = refl; keeps = λ e. (refl, refl); room = omega arith }

pub returns-in_default-split_first : goal.returns-in_default-split_first
returns-in_default-split_first c =
    no_leaf (wanted_sorts c.loop-next.wanted) (wanted_sorts c.pop.new.self) c.in-Some.next c.loop-next.rest.now _ c.in-Some.ensures.sorts c.in_default-split_first.ensures.cases
    c.loop-next.invariant.same

pub returns-then-not-stands_for : goal.returns-then-not-stands_for
returns-then-not-stands_for c =
    misfits (wanted_sorts c.loop-next.wanted) (wanted_sorts c.pop.new.self) c.in-Some.next c.loop-next.rest.now c.in-Some-split_first.behind.now c.in-Some-split_first.leaf.now _
    c.in-Some.ensures.sorts c.in-Some-split_first.ensures.cases.0 (sym c.stands_for.ensures ∙ c.if-not-stands_for.true) c.loop-next.invariant.same

pub push-requires : goal.push-requires
push-requires c =
    let room : c.pop.new.self.longs + 1 < 2 ^ 64 = omega (arith, c.in-Some.ensures.fewer, c.in-Some-split_first.ensures.cases) in
    subst (λ (ks : List Sort). CanPush ks c.pop.new.self) (sym c.kids.ensures)
    (leaf_can_push c.in-Some-split_first.leaf.now c.in-Some.next c.pop.new.self (sym c.stands_for.ensures ∙ c.if-not-stands_for.false) c.in-Some.ensures.taken
    (λ e. c.in-Some.ensures.last c.loop-next.invariant.keeps (ap Some e)) room)

pub loop-next-preserved : goal.loop-next-preserved
loop-next-preserved c = record {
  same = goes (wanted_sorts c.loop-next.wanted) (wanted_sorts c.pop.new.self) (wanted_sorts c.push.new.self) c.in-Some.next c.loop-next.rest.now c.in-Some-split_first.behind.now
      c.in-Some-split_first.leaf.now _ c.in-Some.ensures.sorts c.in-Some-split_first.ensures.cases.0 (sym c.stands_for.ensures ∙ c.if-not-stands_for.false)
      (c.push.ensures.sorts ∙ ap (λ (ks : List Sort). ks ++ wanted_sorts c.pop.new.self) c.kids.ensures) c.loop-next.invariant.same;
  keeps = c.push.ensures.keeps;
  room = omega (arith, c.in-Some.ensures.fewer, c.in-Some-split_first.ensures.cases, c.push.ensures.more, c.loop-next.invariant.room);
}

pub returns : goal.returns
returns c =
    ended (wanted_sorts c.loop-next.wanted) c.loop-next.rest.now c.is_only_end.result _ c.in_default.ensures.none c.is_only_end.ensures c.loop-next.invariant.same
