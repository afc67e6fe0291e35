use Rattle.std.proofs.Common.{length, slice_get, slice_set, sym, ap, ◌∙◌}
use Rattle.std.proofs.lemmas.Option.{slice_get_read}
use Rattle.lr_check_store.specs.Store.{StoreView}
use Rattle.lr_check_store.proofs.Holding.{puts_line}
use Rattle.lr_check_store.proofs.store.Store.put_line.Goals as goal

pub returns : goal.returns
returns c = puts_line c.hold_line.result c.args.self.now _ c.args.at c.index_mut.result.now c.hold_line.new.row c.args.line
    (sym (ap (λ (v : StoreView). slice_get v.rows c.args.at) c.self.view_is)
    ∙ slice_get_read _ (length c.args.self.now.rows) c.args.at c.index_mut.result.now (sym (ap (λ (v : StoreView). length v.rows) c.self.view_is)) c.requires c.index_mut.ensures.value)
    (ap (λ (v : StoreView). slice_set v.rows c.args.at c.hold_line.new.row) c.self.view_is) (ap (λ (v : StoreView). v.lists) c.self.view_is) (ap (λ (v : StoreView). v.ways) c.self.view_is)
    c.hold_line.ensures.line c.hold_line.ensures.apart
