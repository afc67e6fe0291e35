use Rattle.std.proofs.Common.{sym, subst}
use Rattle.lr_check_found.specs.lr_check_sets.specs.Table.{automaton_of}
use Rattle.lr_check_store.specs.Store.{StoreView, IsSound}
use Rattle.lr_check_store.specs.Adding.{IsReducedAt}
use Rattle.lr_check_store.proofs.Holding.{sound_lists}
use Rattle.lr_check_store.proofs.Making.{reduced_held}
use Rattle.lr_check_store.proofs.store.Store.add_reduced.Goals as goal

pub returns : goal.returns
returns c =
    let A = automaton_of c.args.tables.now in
    let w = c.push.new.self in
    let kept = c.in_ok-list.ensures.kept in
    let sound = subst (IsSound A) (sym c.self.view_is) c.requires in
    c.hold.ensures A (sound_lists A _ w sound c.in_ok-list.ensures.lists kept)
    (reduced_held A _ w c.args.at c.args.class c.args.set c.in_ok-list.list c.in-Some.state c.over.result sound
    (subst (λ (v : StoreView). IsReducedAt A v c.args.at c.args.class c.args.set c.in-Some.state) (sym c.self.view_is) (c.in-Some.ensures A c.requires))
    kept c.in_ok-list.ensures.number c.over.ensures)
