use Rattle.std.proofs.Common.{Option, ℕ, sym, ap, ◌∙◌, subst}
use Rattle.lr_check_sets.specs.Table.{automaton_of}
use Rattle.lr_check_found.specs.declared.settlings.How.{How}
use Rattle.lr_check_found.specs.declared.settlings.How.TheVariants as how
use Rattle.lr_check_found.specs.Found.{FoundView}
use Rattle.lr_check_found.proofs.Reading.{looked_at}
use Rattle.lr_check_found.specs.Items.{IsBehind, behind_leaf, behind_one, behind_two, behind_reduced}
use Rattle.lr_check_found.proofs.found.Found.state_by.Goals as goal

pub returns-in-Leaf : goal.returns-in-Leaf
returns-in-Leaf c =
    subst (λ (h : How). IsBehind (automaton_of c.args.tables.now) c.args.self.now c.args.place.now h c.over.result) (sym c.in-Leaf.is)
    (subst (λ (o : Option ℕ). IsBehind (automaton_of c.args.tables.now) c.args.self.now c.args.place.now how.Leaf o) (sym c.over.ensures) behind_leaf)

pub returns-in_ok-get-in-One : goal.returns-in_ok-get-in-One
returns-in_ok-get-in-One c =
    let h = c.in_ok-get-in-One.ensures in
    subst (λ (h : How). IsBehind (automaton_of c.args.tables.now) c.args.self.now c.args.place.now h c.in_ok-get-in-One.field-0.now.behind) (sym c.in-One.is)
    (behind_one (looked_at c.deref.result.now c.args.self.now.settlings c.in-One.kid c.in_ok-get-in-One.field-0.now
    (c.deref.ensures.value ∙ ap (λ (f : FoundView). f.settlings) c.self.view_is) h.lookup.0 h.lookup.1))

pub returns-in_ok-get-in-Two : goal.returns-in_ok-get-in-Two
returns-in_ok-get-in-Two c =
    let h = c.in_ok-get-in-Two.ensures in
    subst (λ (h : How). IsBehind (automaton_of c.args.tables.now) c.args.self.now c.args.place.now h c.in_ok-get-in-Two.field-0.now.behind) (sym c.in-Two.is)
    (behind_two (looked_at c.deref-in-Two.result.now c.args.self.now.settlings c.in-Two.second c.in_ok-get-in-Two.field-0.now
    (c.deref-in-Two.ensures.value ∙ ap (λ (f : FoundView). f.settlings) c.self.view_is) h.lookup.0 h.lookup.1))

pub returns-in-Reduced : goal.returns-in-Reduced
returns-in-Reduced c =
    subst (λ (h : How). IsBehind (automaton_of c.args.tables.now) c.args.self.now c.args.place.now h c.over-in-Reduced.result) (sym c.in-Reduced.is)
    (subst (λ (o : Option ℕ). IsBehind (automaton_of c.args.tables.now) c.args.self.now c.args.place.now (how.Reduced c.in-Reduced.field-0 c.in-Reduced.class) o)
    (sym c.over-in-Reduced.ensures) behind_reduced)
