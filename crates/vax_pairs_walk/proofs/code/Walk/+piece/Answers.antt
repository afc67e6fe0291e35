use Rattle.std.proofs.Common.{◌≡◌, true, map, Some}
use Rattle.vax_pairs.specs.Trees.{Arrives, CallsHere, ReturnsHere}
use Rattle.vax_pairs.specs.TermRuns.{run_tree}
use Rattle.vax_pairs_walk.specs.declared.tree.Stop.TheVariants as stops
use Rattle.vax_pairs_walk.specs.Stepping.{is_marked}
use Rattle.vax_pairs_walk.specs.Views.{state_of, event_of}
use Rattle.vax_pairs_walk.specs.Pieces.{tree_of}
use Rattle.vax_pairs_walk.proofs.Straight.{stops_so, asked_by, ended_by}
use Rattle.vax_pairs_walk.proofs.code.Walk.+piece.Goals as goal

pub returns-in-Arrives : goal.returns-in-Arrives
returns-in-Arrives t c =
    let w = c.args.self in
    let f = c.in_ok-front.field-0 in
    let e : f.stop ≡ stops.Arrives c.in-Arrives.moved c.in-Arrives.place = cc in
    ended_by _ (map event_of f.front.events.items) (Arrives c.in-Arrives.moved c.in-Arrives.place (state_of f.front.state))
    (stops_so w.items.now w.layout.now (is_marked w.cuts.now) _ f (stops.Arrives c.in-Arrives.moved c.in-Arrives.place) c.in_ok-front.ensures.tree e)

pub returns-in-Calls : goal.returns-in-Calls
returns-in-Calls t c =
    let w = c.args.self in
    let f = c.in_ok-front.field-0 in
    let e : f.stop ≡ stops.Calls c.in-Calls.count c.in-Calls.name c.in-Calls.behind = cc in
    ended_by _ (map event_of f.front.events.items) (CallsHere c.in-Calls.count c.in-Calls.name c.in-Calls.behind (state_of f.front.state))
    (stops_so w.items.now w.layout.now (is_marked w.cuts.now) _ f (stops.Calls c.in-Calls.count c.in-Calls.name c.in-Calls.behind) c.in_ok-front.ensures.tree e)

pub returns-in-Returns : goal.returns-in-Returns
returns-in-Returns t c =
    let w = c.args.self in
    let f = c.in_ok-front.field-0 in
    let e : f.stop ≡ stops.Returns c.in-Returns.behind = cc in
    ended_by _ (map event_of f.front.events.items) (ReturnsHere c.in-Returns.behind (state_of f.front.state))
    (stops_so w.items.now w.layout.now (is_marked w.cuts.now) _ f (stops.Returns c.in-Returns.behind) c.in_ok-front.ensures.tree e)

pub returns-in_ok-no-in-Asks-2 : goal.returns-in_ok-no-in-Asks-2
returns-in_ok-no-in-Asks-2 t c =
    let w = c.args.self in
    let f = c.in_ok-front.field-0 in
    let e : f.stop ≡ stops.Asks c.in-Asks.test c.in-Asks.to c.in-Asks.behind = cc in
    let yes : run_tree w.items.now w.layout.now (is_marked w.cuts.now) f.left true c.in-Asks.to f.front.known (state_of f.front.state) ≡ Some (tree_of c.in_ok-yes-in-Asks-2.yes.value) =
    cc (c.in_ok-yes-in-Asks.ensures, c.in_ok-copy-in-Asks.ensures, c.in_ok-yes-in-Asks-2.ensures.ok) in
    let others : run_tree w.items.now w.layout.now (is_marked w.cuts.now) f.left true c.in-Asks.behind f.front.known (state_of f.front.state) ≡ Some (tree_of c.in_ok-no-in-Asks-2.no.value) =
    cc (c.in_ok-no-in-Asks.ensures, c.in_ok-copy-in-Asks-2.ensures, c.in_ok-no-in-Asks-2.ensures.ok) in
    asked_by _ (map event_of f.front.events.items) c.in-Asks.test (state_of f.front.state) _ _ _ _
    (stops_so w.items.now w.layout.now (is_marked w.cuts.now) _ f (stops.Asks c.in-Asks.test c.in-Asks.to c.in-Asks.behind) c.in_ok-front.ensures.tree e) yes others
