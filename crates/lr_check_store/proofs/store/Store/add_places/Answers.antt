use Rattle.lr_check_found.specs.lr_check_sets.specs.Table.{automaton_of}
use Rattle.lr_check_store.proofs.Holding.{sound_places}
use Rattle.lr_check_store.proofs.store.Store.add_places.Goals as goal

pub returns : goal.returns
returns c = sound_places (automaton_of c.args.tables.now) c.args.self.now _ _ c.args.state c.args.token c.args.set c.requires (c.stands_at.ensures c.if-not-stands_at.false)
    (c.begins.ensures c.if-not-begins.false) c.put_places.ensures
