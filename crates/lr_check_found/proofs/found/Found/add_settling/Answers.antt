use Rattle.std.proofs.Common.{◌≡◌, [], length, sym, ap, ◌∙◌, subst, true≢false}
use Rattle.std.specs.Prelude.{slice_index_or}
use Rattle.std.proofs.lemmas.Option.{get_or_from_slice_get}
use Rattle.lr_check_found.specs.declared.settlings.Settling.{Settling}
use Rattle.lr_check_found.specs.Found.{FoundView, IsPlaceAt}
use Rattle.lr_check_found.specs.Sound.{IsFound}
use Rattle.lr_check_found.specs.Adding.{IsWider, HasWayOut}
use Rattle.lr_check_found.proofs.Reading.{looked_at}
use Rattle.lr_check_sets.specs.Table.{automaton_of}
use Rattle.lr_check_found.proofs.Growing.{has_made_grows}
use Rattle.lr_check_found.proofs.Settled.{relisted_found, relisted_more}
use Rattle.lr_check_found.proofs.Added.{has_kids, Listed, listed, added, on_ok}
use Rattle.lr_check_found.proofs.found.Found.add_settling.Goals as goal

pub list_by-requires-clause-upper : goal.list_by-requires-clause-upper
list_by-requires-clause-upper c = (has_kids (automaton_of c.args.tables.now) c.args.self.now c.args.number c.args.how c.requires.found c.requires.made).upper

pub list_by-requires-clause-lower : goal.list_by-requires-clause-lower
list_by-requires-clause-lower c = (has_kids (automaton_of c.args.tables.now) c.args.self.now c.args.number c.args.how c.requires.found c.requires.made).lower

pub returns-then-settles-clause-found : goal.returns-then-settles-clause-found
returns-then-settles-clause-found c = relisted_found (automaton_of c.args.tables.now) c.args.self.now _ c.requires.found c.in_ok-list.ensures.rest

pub state_by-behind-requires : goal.state_by-behind-requires
state_by-behind-requires c = (
  c.args.number,
  has_made_grows (automaton_of c.args.tables.now) c.args.self.now _ (relisted_more c.args.self.now _ c.in_ok-list.ensures.rest) c.args.number
      c.args.how c.requires.made,
)

pub returns-clause-found : goal.returns-clause-found
returns-clause-found c =
    let A = automaton_of c.args.tables.now in
    let f = c.args.self.now in
    let f1 = c.list_by.new.self in
    let x = c.in-Some.place.now in
    let e : Settling = record { place = c.args.number; list = c.in_ok-list.list; behind = c.state_by-behind.result; is_sum = c.leads_out-is_sum.result; how = c.args.how } in
    let there : IsPlaceAt f c.args.number x = looked_at c.deref.result.now f.places c.args.number x (c.deref.ensures.value ∙ ap (λ (v : FoundView). v.places) c.self.view_is) c.in-Some.ensures.lookup.0
    c.in-Some.ensures.lookup.1 in
    let l : Listed A f f1 c.args.number c.in_ok-list.list x c.args.how =
    listed A f f1 c.args.number c.in_ok-list.list x c.args.how c.requires.found c.requires.made there c.in_ok-list.ensures.number in
    let same : c.get-size.result.now ≡ l.list = c.get-size.ensures ∙ (ap (λ (v : FoundView). slice_index_or v.lists.all c.in_ok-list.list []) c.self-2.view_is ∙
    get_or_from_slice_get f1.lists.all c.in_ok-list.list l.list [] l.at) in
    let found1 : IsFound A f1 = relisted_found A f f1 c.requires.found c.in_ok-list.ensures.rest in
    on_ok _ _ _ (λ is. (added A f f1 _ e x l.list c.requires.found c.in_ok-list.ensures.rest there l.made l.at c.state_by-behind.ensures
    (λ u. subst (λ s. HasWayOut A e.behind x.behind (length s)) same (c.leads_out-is_sum.ensures.some u))
    (λ p w at free wide. c.leads_out-is_sum.ensures.each p w at free (subst (λ s. IsWider w (length s)) (sym same) wide))
    (λ i d at p m. true≢false (sym (c.settles.ensures.absent A i d found1 at p m) ∙ c.if-settles.false)) is).found) c.push_settling.ensures

pub returns-clause-grows : goal.returns-clause-grows
returns-clause-grows c =
    let A = automaton_of c.args.tables.now in
    let f = c.args.self.now in
    let f1 = c.list_by.new.self in
    let x = c.in-Some.place.now in
    let e : Settling = record { place = c.args.number; list = c.in_ok-list.list; behind = c.state_by-behind.result; is_sum = c.leads_out-is_sum.result; how = c.args.how } in
    let there : IsPlaceAt f c.args.number x = looked_at c.deref.result.now f.places c.args.number x (c.deref.ensures.value ∙ ap (λ (v : FoundView). v.places) c.self.view_is) c.in-Some.ensures.lookup.0
    c.in-Some.ensures.lookup.1 in
    let l : Listed A f f1 c.args.number c.in_ok-list.list x c.args.how =
    listed A f f1 c.args.number c.in_ok-list.list x c.args.how c.requires.found c.requires.made there c.in_ok-list.ensures.number in
    let same : c.get-size.result.now ≡ l.list = c.get-size.ensures ∙ (ap (λ (v : FoundView). slice_index_or v.lists.all c.in_ok-list.list []) c.self-2.view_is ∙
    get_or_from_slice_get f1.lists.all c.in_ok-list.list l.list [] l.at) in
    let found1 : IsFound A f1 = relisted_found A f f1 c.requires.found c.in_ok-list.ensures.rest in
    on_ok _ _ _ (λ is. (added A f f1 _ e x l.list c.requires.found c.in_ok-list.ensures.rest there l.made l.at c.state_by-behind.ensures
    (λ u. subst (λ s. HasWayOut A e.behind x.behind (length s)) same (c.leads_out-is_sum.ensures.some u))
    (λ p w at free wide. c.leads_out-is_sum.ensures.each p w at free (subst (λ s. IsWider w (length s)) (sym same) wide))
    (λ i d at p m. true≢false (sym (c.settles.ensures.absent A i d found1 at p m) ∙ c.if-settles.false)) is).grows) c.push_settling.ensures
