use Rattle.std.proofs.Common.{subst}
use Rattle.lr_check_sets.specs.Table.{automaton_of}
use Rattle.lr_check_found.specs.declared.settlings.Item.{Item}
use Rattle.lr_check_found.specs.Items.{IsItem}
use Rattle.lr_check_found.proofs.Added.{place_added, on_ok}
use Rattle.lr_check_found.proofs.found.Found.add.Goals as goal

pub returns-in-Place-clause-found : goal.returns-in-Place-clause-found
returns-in-Place-clause-found c = on_ok _ _ _
    (λ h. (place_added (automaton_of c.args.tables.now) _ _ c.in-Place.place c.in-Place.origin c.requires.found
    (subst (λ (i : Item). IsItem (automaton_of c.args.tables.now) c.args.self.now i) c.in-Place.is c.requires.item) h).found)
    c.add_place.ensures

pub returns-in-Place-clause-grows : goal.returns-in-Place-clause-grows
returns-in-Place-clause-grows c = on_ok _ _ _
    (λ h. (place_added (automaton_of c.args.tables.now) _ _ c.in-Place.place c.in-Place.origin c.requires.found
    (subst (λ (i : Item). IsItem (automaton_of c.args.tables.now) c.args.self.now i) c.in-Place.is c.requires.item) h).grows)
    c.add_place.ensures
