use Rattle.std.proofs.Common.{length, slice_get, slice_set, sym, ap, ◌∙◌}
use Rattle.std.proofs.lemmas.Option.{slice_get_read}
use Rattle.lr_check_store.specs.Store.{StoreView}
use Rattle.lr_check_store.proofs.store.Store.put_places.Goals as goal

pub returns : goal.returns
returns c = record {
  old = c.index_mut.result.now;
  new = c.hold_places.new.row;
  there = sym (ap (λ (v : StoreView). slice_get v.rows c.args.at) c.self.view_is)
      ∙ slice_get_read _ (length c.args.self.now.rows) c.args.at c.index_mut.result.now (sym (ap (λ (v : StoreView). length v.rows) c.self.view_is)) c.requires c.index_mut.ensures.value;
  rows = ap (λ (v : StoreView). slice_set v.rows c.args.at c.hold_places.new.row) c.self.view_is;
  lists = ap (λ (v : StoreView). v.lists) c.self.view_is;
  ways = ap (λ (v : StoreView). v.ways) c.self.view_is;
  has = c.hold_places.ensures;
}
