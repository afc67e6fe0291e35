use Rattle.std.proofs.Common.{[], refl, ap, ◌∙◌}
use Rattle.std.specs.Prelude.{slice_index_or}
use Rattle.lr_check_found.specs.Lists.{ListsView}
use Rattle.lr_check_found.specs.Found.{IsPlaceAt}
use Rattle.lr_check_found.proofs.Reading.{looked_at}
use Rattle.lr_check_found.proofs.Added.{on_ok}
use Rattle.lr_check_complete.specs.Looks.{automaton}
use Rattle.lr_check_complete.proofs.Turns.{looks_map, looks_there}
use Rattle.lr_check_complete.proofs.Both.{not_there}
use Rattle.lr_check_complete.proofs.Reducing.{reduced_made, reduces_in, reduces_nowhere, reduces_lost}
use Rattle.lr_check_complete.proofs.look.Look.by_settling.Goals as goal

pub returns-in-None : goal.returns-in-None
returns-in-None c = λ at. looks_there c.args.self.now _ _
    (reduces_nowhere (automaton c.args.self.now) c.args.self.now.found.now c.args.number c.args.settling.now at c.in-None.is)

pub returns-in-None-get : goal.returns-in-None-get
returns-in-None-get c = λ at. looks_there c.args.self.now _ _
    (reduces_lost (automaton c.args.self.now) c.args.self.now.found.now c.args.number c.args.settling.now at
    (λ x there. not_there c.places.result.now c.args.self.now.found.now.places c.args.settling.now.place x c.places.ensures c.in-None-get.ensures.lookup.0 there))

pub returns : goal.returns
returns c = λ at.
    let t = c.args.self.now.tables.now in
    let f = c.args.self.now.found.now in
    let e = c.args.settling.now in
    let x = c.in-Some-get.place.now in
    let there : IsPlaceAt f e.place x = looked_at c.places.result.now f.places e.place x c.places.ensures c.in-Some-get.ensures.lookup.0 c.in-Some-get.ensures.lookup.1 in
    let lists = c.get-size.ensures ∙ ap (λ (v : ListsView). slice_index_or v.all e.list []) c.lists.ensures in
    on_ok _ _ _
    (looks_map c.args.self.now _ _ _ _
    (reduces_in t f c.args.number e x c.in-Some.state c.requires at c.in-Some.is there _ _ _ c.free_choices-free.result.now c.description.ensures
    c.rules-rules.ensures c.action.ensures.value c.free_choices-free.ensures c.get-size.result.now _ lists refl))
    (c.by_choices.ensures
    (reduced_made t f c.args.number e x c.in-Some.state c.requires at c.in-Some.is there _ _ _ c.free_choices-free.result.now c.description.ensures
    c.rules-rules.ensures c.action.ensures.value c.free_choices-free.ensures c.get-size.result.now _ lists refl))
