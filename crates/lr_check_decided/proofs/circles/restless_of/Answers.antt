use Rattle.std.proofs.Common.{ℕ, [], length, refl, sym, ap, ◌∙◌, subst}
use Rattle.std.specs.Prelude.{slice_index_or}
use Rattle.lr_check_sets.specs.Bound.{HasClasses}
use Rattle.lr_check_sets.specs.Table.{productions, automaton_of}
use Rattle.lr_check_found.specs.Lists.{ListsView}
use Rattle.lr_check_decided.specs.Calm.{AreCalm, AreStuck, AllMarked}
use Rattle.lr_check_decided.proofs.Calming.{if_not_some, none_calm}
use Rattle.lr_check_decided.proofs.Holding.{held_calm}
use Rattle.lr_check_decided.proofs.Circling.{calm_end, calm_list, restless_list}
use Rattle.lr_check_decided.proofs.circles.restless_of.Goals as goal

pub returns-in-None-clause-none : goal.returns-in-None-clause-none
returns-in-None-clause-none c = λ s is. calm_end (automaton_of c.args.tables.now) c.args.found.now c.requires.at.0 c.args.settling.now c.args.place.now s c.requires.complete.found
    c.requires.at.1 c.requires.place is c.in-None.is

pub returns-then-is_none-clause-none : goal.returns-then-is_none-clause-none
returns-then-is_none-clause-none c = λ s is.
    let t = c.args.tables.now in
    let f = c.args.found.now in
    let e = c.args.settling.now in
    let x = c.args.place.now in
    let lists = c.get-size.ensures ∙ ap (λ (v : ListsView). slice_index_or v.all e.list []) c.lists.ensures in
    calm_list t f c.requires.at.0 e x c.in-Some.state c.requires.complete.found c.requires.at.1 c.in-Some.is c.requires.place _ _ _ c.free_choices-free.result.now c.description.ensures
    c.rules-rules.ensures c.action.ensures.value c.free_choices-free.ensures c.get-size.result.now _ lists refl [] (none_calm (automaton_of t) x.state 0 x.behind [] refl)
    (if_not_some c.first_unmarked.result (AllMarked c.rules-rules.result.now (length c.get-size.result.now) [] c.free_choices-free.result.now) c.first_unmarked.ensures.none
    c.if-is_none.ensures) s is

pub returns-in-Some-first_unmarked-clause-some : goal.returns-in-Some-first_unmarked-clause-some
returns-in-Some-first_unmarked-clause-some c =
    let t = c.args.tables.now in
    let f = c.args.found.now in
    let e = c.args.settling.now in
    let x = c.args.place.now in
    let lists = c.get-size.ensures ∙ ap (λ (v : ListsView). slice_index_or v.all e.list []) c.lists.ensures in
    let same = c.deref.ensures.value in (
      restless_list t f c.requires.at.0 e x c.in-Some.state c.requires.complete.found c.requires.at.1 c.in-Some.is c.requires.place _ _ _ c.free_choices-free.result.now c.description.ensures
          c.rules-rules.ensures c.action.ensures.value c.free_choices-free.ensures c.get-size.result.now _ lists refl c.deref.result.now c.requires.complete
          (subst (AreStuck (automaton_of t) x.state x.behind) (sym same) c.in_ok-marks.ensures.stuck)
          (subst (λ (n : ℕ). HasClasses (productions t.content.rules) n) (sym (ap length same ∙ c.in_ok-marks.ensures.long)) c.requires.classes)
          (record { class = c.in-Some-first_unmarked.class; marks = c.in_ok-marks.marks }) (sym same) c.in-Some-first_unmarked.ensures.some,
      c.in_ok-marks.ensures.long,
    )

pub returns-in_ok-hold-in-None-first_unmarked-clause-none : goal.returns-in_ok-hold-in-None-first_unmarked-clause-none
returns-in_ok-hold-in-None-first_unmarked-clause-none c = λ s is.
    let t = c.args.tables.now in
    let f = c.args.found.now in
    let e = c.args.settling.now in
    let x = c.args.place.now in
    let lists = c.get-size.ensures ∙ ap (λ (v : ListsView). slice_index_or v.all e.list []) c.lists.ensures in
    calm_list t f c.requires.at.0 e x c.in-Some.state c.requires.complete.found c.requires.at.1 c.in-Some.is c.requires.place _ _ _ c.free_choices-free.result.now c.description.ensures
    c.rules-rules.ensures c.action.ensures.value c.free_choices-free.ensures c.get-size.result.now _ lists refl c.deref.result.now
    (subst (AreCalm (automaton_of t) x.state x.behind) (sym c.deref.ensures.value) c.in_ok-marks.ensures.calm) c.in-None-first_unmarked.ensures.none s is

pub returns-then-are_calm-clause-none : goal.returns-then-are_calm-clause-none
returns-then-are_calm-clause-none c = λ s is.
    let t = c.args.tables.now in
    let f = c.args.found.now in
    let e = c.args.settling.now in
    let x = c.args.place.now in
    let h = c.are_calm.ensures c.if-are_calm.true in
    let lists = c.get-size.ensures ∙ ap (λ (v : ListsView). slice_index_or v.all e.list []) c.lists.ensures in
    calm_list t f c.requires.at.0 e x c.in-Some.state c.requires.complete.found c.requires.at.1 c.in-Some.is c.requires.place _ _ _ c.free_choices-free.result.now c.description.ensures
    c.rules-rules.ensures c.action.ensures.value c.free_choices-free.ensures c.get-size.result.now _ lists refl h.calm.marks.items
    (held_calm (automaton_of t) c.args.held.now x.state x.behind c.requires.right h.calm h.held) h.marked s is
