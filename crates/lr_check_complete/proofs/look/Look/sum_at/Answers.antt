use Rattle.lr_check_found.specs.Found.{IsPlaceAt, IsSettlingAt}
use Rattle.std.proofs.lemmas.Bool.{not-false}
use Rattle.lr_check_found.proofs.Reading.{looked_at}
use Rattle.lr_check_complete.specs.Looks.{automaton}
use Rattle.lr_check_complete.proofs.Following.{sum_found}
use Rattle.lr_check_complete.proofs.look.Look.sum_at.Goals as goal

pub returns-in-Some-get : goal.returns-in-Some-get
returns-in-Some-get c =
    let f = c.args.self.now.found.now in
    let e = c.in-Some.settling.now in
    let x = c.in-Some-get.place.now in
    let at : IsSettlingAt f c.args.number e = looked_at c.settlings.result.now f.settlings c.args.number e c.settlings.ensures c.in-Some.ensures.lookup.0 c.in-Some.ensures.lookup.1 in
    let place : IsPlaceAt f e.place x = looked_at c.places.result.now f.places e.place x c.places.ensures c.in-Some-get.ensures.lookup.0 c.in-Some-get.ensures.lookup.1 in
    sum_found (automaton c.args.self.now) f c.args.number c.in-Some-behind.behind e x c.requires at place c.in-Some-behind.is (not-false _ c.if-not-settling.false)
