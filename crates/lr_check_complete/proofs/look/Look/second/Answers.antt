use Rattle.std.proofs.Common.{sym, ◌∙◌, subst}
use Rattle.std.proofs.lemmas.Option.{same_Some}
use Rattle.lr_check_found.specs.declared.places.Place.{Place}
use Rattle.lr_check_found.specs.Found.{IsPlaceAt}
use Rattle.lr_check_found.proofs.Reading.{looked_at}
use Rattle.lr_check_found.proofs.Added.{on_ok}
use Rattle.lr_check_complete.specs.Looks.{automaton}
use Rattle.lr_check_complete.specs.Kids.{SecondAt}
use Rattle.lr_check_complete.proofs.Turns.{looks_map, looks_there}
use Rattle.lr_check_complete.proofs.Both.{not_there, second_kid, second_done}
use Rattle.lr_check_complete.proofs.look.Look.second.Goals as goal

pub returns-in-None : goal.returns-in-None
returns-in-None c = λ e at behind two. looks_there c.args.self.now _ _
    (λ x there. absurd (not_there c.places.result.now c.args.self.now.found.now.places c.args.number x c.places.ensures c.in-None.ensures.lookup.0 there))

pub returns : goal.returns
returns c = λ e at behind two.
    let x = c.in-Some.place.now in
    let there : IsPlaceAt c.args.self.now.found.now c.args.number x = looked_at c.places.result.now c.args.self.now.found.now.places c.args.number x c.places.ensures c.in-Some.ensures.lookup.0
    c.in-Some.ensures.lookup.1 in
    on_ok _ _ _
    (looks_map c.args.self.now _ _ _ _
    (λ g y other. subst (λ (z : Place). SecondAt c.args.self.now.found.now c.args.number z c.args.token c.args.first) (same_Some x y (sym there ∙ other))
    (second_done c.args.self.now.found.now c.args.number c.args.first c.args.behind x c.args.token e at behind g)))
    (c.second_at.ensures x (second_kid (automaton c.args.self.now) c.args.self.now.found.now c.args.number c.args.first c.args.behind x c.args.token e at behind (two x there)))
