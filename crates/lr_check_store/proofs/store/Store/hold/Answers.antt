use Rattle.std.proofs.Common.{refl}
use Rattle.lr_check_found.proofs.Added.{on_ok}
use Rattle.lr_check_rows.specs.declared.rows.Line.{Line}
use Rattle.lr_check_store.specs.Store.{IsSound}
use Rattle.lr_check_store.specs.Adding.{PutsLine}
use Rattle.lr_check_store.proofs.Holding.{sound_line}
use Rattle.lr_check_store.proofs.store.Store.hold.Goals as goal

pub returns : goal.returns
returns c = λ A sound hold.
    let s = c.args.self.now in
    let t = c.put_line.new.self in
    let l : Line = record { list = c.args.list; behind = c.args.behind; settled = c.args.set; sums = c.sums-sums.result } in
    on_ok c.put_line.result (PutsLine s t c.args.at l) (IsSound A t)
    (λ is. sound_line A s t c.args.at c.args.list c.args.behind c.args.set l sound hold refl refl refl c.sums-sums.ensures.within c.sums-sums.ensures.out is) c.put_line.ensures
