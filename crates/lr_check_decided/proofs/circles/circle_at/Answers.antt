use Rattle.std.proofs.Common.{◌≡◌, ℕ, List, length, sym, ◌∙◌, subst}
use Rattle.std.proofs.lemmas.Option.{same_Some}
use Rattle.md_reader.specs.declared.types.Sym.{Sym}
use Rattle.lr_check_sets.specs.Bound.{HasClasses}
use Rattle.lr_check_sets.specs.Faults.{Calms}
use Rattle.lr_check_sets.specs.Table.{productions, automaton_of}
use Rattle.lr_check_found.specs.declared.places.Place.{Place}
use Rattle.lr_check_found.specs.declared.settlings.Settling.{Settling}
use Rattle.lr_check_found.specs.Lists.{IsList}
use Rattle.lr_check_found.specs.Found.{IsPlaceAt, IsSettlingAt}
use Rattle.lr_check_found.proofs.Reading.{looked_at}
use Rattle.lr_check_complete.proofs.Both.{not_there}
use Rattle.lr_check_decided.specs.declared.circles.Restless.{Restless}
use Rattle.lr_check_decided.specs.Turn.{IsRestless}
use Rattle.lr_check_decided.proofs.Calming.{some_at, none_at}
use Rattle.lr_check_decided.proofs.circles.circle_at.Goals as goal

pub returns-in-None-clause-none : goal.returns-in-None-clause-none
returns-in-None-clause-none c = λ d x s at there is. absurd (not_there c.settlings.result.now c.args.found.now.settlings c.args.number d c.settlings.ensures c.in-None.ensures.lookup.0 at)

pub circle_of-requires-clause-classes : goal.circle_of-requires-clause-classes
circle_of-requires-clause-classes c = subst (λ (n : ℕ). HasClasses (productions c.args.tables.now.content.rules) n)
    (sym (some_at c.in_ok-restless.field-0 c.in-Some-2.restless
    (λ (r : Restless). IsRestless (automaton_of c.args.tables.now) c.args.found.now c.in-Some.settling.now.place c.in-Some-get.place.now r
    × (length r.marks.items ≡ length c.args.tables.now.content.classes)) c.in-Some-2.is c.in_ok-restless.ensures.some).1) c.requires.classes

pub returns-in-None-2-clause-none : goal.returns-in-None-2-clause-none
returns-in-None-2-clause-none c = λ d y s other there is.
    let f = c.args.found.now in
    let A = automaton_of c.args.tables.now in
    let e = c.in-Some.settling.now in
    let x = c.in-Some-get.place.now in
    let at : IsSettlingAt f c.args.number e = looked_at c.settlings.result.now f.settlings c.args.number e c.settlings.ensures c.in-Some.ensures.lookup.0 c.in-Some.ensures.lookup.1 in
    let place : IsPlaceAt f e.place x = looked_at c.places.result.now f.places e.place x c.places.ensures c.in-Some-get.ensures.lookup.0 c.in-Some-get.ensures.lookup.1 in
    let same : d ≡ e = same_Some d e (sym other ∙ at) in
    let there' : IsPlaceAt f e.place y = subst (λ (z : Settling). IsPlaceAt f z.place y) same there in
    let is' : IsList f.lists e.list s = subst (λ (z : Settling). IsList f.lists z.list s) same is in
    subst (λ (z : Place). Calms A z.state z.behind s) (same_Some x y (sym place ∙ there'))
    (none_at c.in_ok-restless.field-0 ((s : List Sym) → IsList f.lists e.list s → Calms A x.state x.behind s) c.in-None-2.is c.in_ok-restless.ensures.none s is')
