use Rattle.std.proofs.Common.{ℕ, [], refl, ap, subst, ◌∙◌}
use Rattle.std.specs.Prelude.{slice_index_or}
use Rattle.lr_check_found.specs.declared.settlings.How.TheVariants as how
use Rattle.lr_check_found.specs.Lists.{ListsView}
use Rattle.lr_check_found.specs.Found.{IsPlaceAt}
use Rattle.lr_check_found.specs.Items.{HasMade}
use Rattle.lr_check_found.proofs.Reading.{looked_at}
use Rattle.lr_check_complete.specs.Looks.{automaton}
use Rattle.lr_check_complete.proofs.Reducing.{reduced_made}
use Rattle.lr_check_complete.proofs.look.Look.is_made_of.Goals as goal

pub returns : goal.returns
returns c = λ u at.
    let t = c.args.self.now.tables.now in
    let f = c.args.self.now.found.now in
    let e = c.args.settling.now in
    let x = c.in-Some-get.place.now in
    let r = c.some_makes.ensures u in
    let there : IsPlaceAt f e.place x = looked_at c.places.result.now f.places e.place x c.places.ensures c.in-Some-get.ensures.lookup.0 c.in-Some-get.ensures.lookup.1 in
    let lists = c.get-size.ensures ∙ ap (λ (v : ListsView). slice_index_or v.all e.list []) c.lists.ensures in
    subst (λ (n : ℕ). HasMade (automaton c.args.self.now) f n (how.Reduced c.args.whole c.args.class)) c.if-settling-number.false
    (reduced_made t f c.args.whole e x c.in-Some.state c.requires at c.in-Some.is there _ _ _ c.free_choices-free.result.now c.description.ensures
    c.rules-rules.ensures c.action.ensures.value c.free_choices-free.ensures c.get-size.result.now _ lists refl r.0 r.1.0 c.args.class r.1.1)
