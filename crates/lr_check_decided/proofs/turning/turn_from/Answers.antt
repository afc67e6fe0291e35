use Rattle.std.proofs.Common.{◌≡◌, ℕ, ◌+◌, List, [], ◌∷◌, ◌++◌, length, drop, slice_get, sym, ap, ◌∙◌, subst, arith, length-append}
use Rattle.std.proofs.lemmas.Option.{slice_get_within}
use Rattle.lr_check_sets.specs.Table.{automaton_of}
use Rattle.lr_check_decided.specs.declared.turning.Turn.{Turn}
use Rattle.lr_check_decided.specs.Turn.{IsTurn}
use Rattle.lr_check_decided.proofs.Calming.{if_ok_both}
use Rattle.lr_check_decided.proofs.Paths.{Way, no_way, way_on, turns, way_ends}
use Rattle.lr_check_decided.proofs.turning.turn_from.Goals as goal

pub loop-round-init : goal.loop-round-init
loop-round-init c = record {
  way = subst (λ (l : List ℕ). Way (automaton_of c.args.tables.now) c.args.state c.args.behind (length c.args.marks.now) c.args.start l c.args.start) (sym c.new-way.ensures.items)
      (no_way (automaton_of c.args.tables.now) c.args.state c.args.behind (length c.args.marks.now) c.args.start);
  many = ap length c.new-way.ensures.items;
  low = c.requires.low;
  unmarked = c.requires.unmarked;
}

pub turn_at-requires : goal.turn_at-requires
turn_at-requires c =
    let lt = slice_get_within c.deref.result.now c.in-Some.at c.loop-round.class c.in-Some.ensures.there in
    let same = ap length (c.deref.ensures.value ∙ sym c.deref-in-Some.ensures.value) in
    omega (arith, lt, same)

pub returns-in-Some : goal.returns-in-Some
returns-in-Some c =
    let way = c.loop-round.way.items in
    let at = c.in-Some.at in
    let class = c.loop-round.class in
    if_ok_both c.turn_at.result (λ (t : Turn). t.class ≡ class) (λ (t : Turn). t.along.items ≡ drop (at + 1) c.deref-in-Some.result.now ++ class ∷ [])
    (λ (t : Turn). IsTurn (automaton_of c.args.tables.now) c.args.state c.args.behind c.args.start t)
    (λ t same along. turns (automaton_of c.args.tables.now) c.args.state c.args.behind (length c.args.marks.now) c.args.start way class at t c.loop-round.invariant.way
    (sym (ap (λ (l : List ℕ). slice_get l at) c.deref.ensures.value) ∙ c.in-Some.ensures.there) same
    (along ∙ ap (λ (l : List ℕ). drop (at + 1) l ++ class ∷ []) c.deref-in-Some.ensures.value))
    c.turn_at.ensures.same c.turn_at.ensures.along

pub loop-round-preserved : goal.loop-round-preserved
loop-round-preserved c =
    let way = c.loop-round.way.items in
    let class = c.loop-round.class in
    let items : c.push.new.self.items ≡ way ++ class ∷ [] = c.in_ok-push.ensures.items in
    record {
      way = subst (λ (l : List ℕ). Way (automaton_of c.args.tables.now) c.args.state c.args.behind (length c.args.marks.now) c.args.start l c.next-class.result) (sym items)
          (way_on (automaton_of c.args.tables.now) c.args.state c.args.behind (length c.args.marks.now) c.args.start way class c.next-class.result c.loop-round.invariant.way
          (λ j e. c.in_default.ensures.absent j (ap (λ (l : List ℕ). slice_get l j) c.deref.ensures.value ∙ e)) c.loop-round.invariant.low c.next-class.ensures.steps);
      many = let long = ap length items ∙ length-append way (class ∷ []) in let many = c.loop-round.invariant.many in omega (arith, long, many);
      low = c.next-class.ensures.low;
      unmarked = c.next-class.ensures.unmarked;
    }

pub unreachable-requires : goal.unreachable-requires
unreachable-requires c =
    let le = way_ends (automaton_of c.args.tables.now) c.args.state c.args.behind (length c.args.marks.now) c.args.start c.loop-round.way.items c.loop-round.class c.loop-round.invariant.way in
    let many = c.loop-round.invariant.many in
    omega (arith, le, many)
