use Rattle.std.proofs.Common.{sym, subst}
use Rattle.lr_check_found.specs.lr_check_sets.specs.Table.{automaton_of}
use Rattle.lr_check_store.specs.Store.{StoreView, IsSound}
use Rattle.lr_check_store.specs.Adding.{IsMade}
use Rattle.lr_check_store.proofs.Holding.{sound_lists}
use Rattle.lr_check_store.proofs.Making.{made_held}
use Rattle.lr_check_store.proofs.store.Store.add_settled.Goals as goal

pub returns : goal.returns
returns c =
    let A = automaton_of c.args.tables.now in
    let w = c.join_behind.new.self in
    let kept = c.in_ok-list.ensures.kept in
    c.hold.ensures A (sound_lists A _ w (subst (IsSound A) (sym c.self.view_is) c.requires) c.in_ok-list.ensures.lists kept)
    (made_held A _ w c.args.at c.args.set c.in_ok-list.list c.in-Some.made (subst (λ (v : StoreView). IsMade A v c.args.at c.args.set c.in-Some.made) (sym c.self.view_is) c.in-Some.ensures)
    kept c.in_ok-list.ensures.number)
