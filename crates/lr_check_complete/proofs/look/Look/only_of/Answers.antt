use Rattle.std.proofs.Common.{sym, ◌∙◌, subst}
use Rattle.std.proofs.lemmas.Option.{same_Some}
use Rattle.lr_check_found.specs.declared.places.Place.{Place}
use Rattle.lr_check_found.specs.Found.{IsPlaceAt}
use Rattle.lr_check_found.proofs.Reading.{looked_at}
use Rattle.lr_check_found.proofs.Added.{on_ok}
use Rattle.lr_check_complete.specs.Kids.{OnlyIn}
use Rattle.lr_check_complete.proofs.Turns.{looks_map, looks_there}
use Rattle.lr_check_complete.proofs.Both.{not_there}
use Rattle.lr_check_complete.proofs.look.Look.only_of.Goals as goal

pub returns-in-None : goal.returns-in-None
returns-in-None c = λ one. looks_there c.args.self.now _ _
    (λ x there. absurd (not_there c.places.result.now c.args.self.now.found.now.places c.args.number x c.places.ensures c.in-None.ensures.lookup.0 there))

pub returns-in-Some : goal.returns-in-Some
returns-in-Some c = λ one.
    let x = c.in-Some.place.now in
    let there : IsPlaceAt c.args.self.now.found.now c.args.number x = looked_at c.places.result.now c.args.self.now.found.now.places c.args.number x c.places.ensures c.in-Some.ensures.lookup.0
    c.in-Some.ensures.lookup.1 in
    on_ok _ _ _
    (looks_map c.args.self.now _ _ _ _
    (λ g y other. subst (λ (z : Place). OnlyIn c.args.self.now.found.now c.args.number z c.args.over c.args.wanted) (same_Some x y (sym there ∙ other)) g))
    (c.only.ensures there (one x there))
