use Rattle.std.proofs.Common.{ℕ, ◌<◌, ◌++◌, length, reverse, List, ap, ◌∙◌, sym, refl, arith, rules}
use Rattle.std.proofs.lemmas.List.{nil_from_length}
use Rattle.std.proofs.lemmas.Bool.{eqb-true, eqb-false}
use Rattle.std.proofs.lemmas.Option.{slice_get_read}
use Rattle.lr_check.proofs.Orders.{next_within, ordering_turn, ordering_done, ordering_long}
use Rattle.lr_check.proofs.ordering.order.Goals as goal

pub returns-in-None : goal.returns-in-None
returns-in-None c =
    let lt = c.loop-count-test.true in
    ordering_done c.args.nodes.now c.loop-count.order.items c.loop-count.rest.items c.loop-count._count c.loop-count.invariant
    (nil_from_length c.loop-count.rest.items (let n = c.loop-count.rest.ok.0 in let m = c.in-None.ensures.cases.0 in omega (arith, n, m))) (omega (arith, lt))

pub bounds-nodes-number : goal.bounds-nodes-number
bounds-nodes-number c = next_within c.args.nodes.now c.loop-count.order.items c.loop-count.rest.items c.pop.new.self.items c.loop-count._count c.in-Some.number c.loop-count.invariant
    c.in-Some.ensures.items

pub offset_bounds-nodes-number : goal.offset_bounds-nodes-number
offset_bounds-nodes-number c =
    let lt : c.in-Some.number < length c.args.nodes.now = next_within c.args.nodes.now c.loop-count.order.items c.loop-count.rest.items c.pop.new.self.items c.loop-count._count
    c.in-Some.number c.loop-count.invariant c.in-Some.ensures.items in
    search rules

pub loop-count-preserved : goal.loop-count-preserved
loop-count-preserved c =
    let lt : c.in-Some.number < length c.args.nodes.now = next_within c.args.nodes.now c.loop-count.order.items c.loop-count.rest.items c.pop.new.self.items c.loop-count._count
    c.in-Some.number c.loop-count.invariant c.in-Some.ensures.items in
    ordering_turn c.args.nodes.now c.loop-count.order.items c.loop-count.rest.items c.pop.new.self.items c.push-in-Some.new.self.items c.push_kids.new.rest.items c.loop-count._count
    c.in-Some.number c.index-nodes-number.result c.requires c.loop-count.invariant
    c.in-Some.ensures.items (slice_get_read c.args.nodes.now (length c.args.nodes.now) c.in-Some.number c.index-nodes-number.result refl lt c.index-nodes-number.is)
    c.in_ok-push-in-Some.ensures.items (c.in_ok-push_kids-in-Some.ensures ∙ ap (λ (x : List ℕ). c.pop.new.self.items ++ reverse x) c.kids.ensures)

pub returns-then-is_empty : goal.returns-then-is_empty
returns-then-is_empty c =
    let n = c.loop-count.auto._count-end in
    let zero = eqb-true _ 0 (sym c.is_empty.ensures ∙ c.if-is_empty.true) in
    ordering_done c.args.nodes.now c.loop-count.order.items c.loop-count.rest.items c.loop-count._count c.loop-count.invariant
    (nil_from_length c.loop-count.rest.items (let m = c.loop-count.rest.ok.0 in omega (arith, m, zero))) n

pub returns-else-is_empty : goal.returns-else-is_empty
returns-else-is_empty c =
    let n = c.loop-count.auto._count-end in
    let m = c.loop-count-test.false in
    let some = eqb-false _ 0 (sym c.is_empty.ensures ∙ c.if-is_empty.false) in
    ordering_long c.args.nodes.now c.loop-count.order.items c.loop-count.rest.items c.loop-count._count c.requires c.loop-count.invariant (omega (arith, n, m))
    (let l = c.loop-count.rest.ok.0 in omega (arith, l, some))
