use Rattle.std.proofs.Common.{Contains, subst}
use Rattle.lr_check_store.proofs.Making.{reduces}
use Rattle.lr_check_store.proofs.store.Store.reduces.Goals as goal

pub returns-in-Some-ways_at : goal.returns-in-Some-ways_at
returns-in-Some-ways_at c = λ A q k sound line u.
    let h = c.some_reduces.ensures u in
    reduces A c.args.self.now q c.in-Some.behind k c.args.line.now c.in-Some-ways_at.ways.now c.size.result c.args.class c.args.set sound line c.in-Some.is c.in-Some-ways_at.ensures
    c.size.ensures (h.0, (subst (λ xs. Contains xs h.0) c.deref.ensures.value h.1.0, h.1.1))
