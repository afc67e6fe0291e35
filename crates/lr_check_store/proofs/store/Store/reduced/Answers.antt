use Rattle.std.proofs.Common.{refl}
use Rattle.lr_check_store.proofs.Holding.{row_of}
use Rattle.lr_check_store.proofs.store.Store.reduced.Goals as goal

pub returns : goal.returns
returns c = λ A sound.
    let r = c.in_ok-row.row.now in
    record {
      row = r;
      there = c.in_ok-row.ensures;
      state = refl;
      settled = c.reduces.ensures A r.state r.token sound (c.in_ok-line.ensures A c.args.self.now.lists (row_of A c.args.self.now _ r sound c.in_ok-row.ensures)) c.if-not-reduces.false;
    }
