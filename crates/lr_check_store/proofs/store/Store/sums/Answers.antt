use Rattle.std.proofs.Common.{subst}
use Rattle.lr_check_store.specs.Store.{IsOut}
use Rattle.lr_check_store.proofs.store.Store.sums.Goals as goal

pub returns-in-Some-ways_at-clause-out : goal.returns-in-Some-ways_at-clause-out
returns-in-Some-ways_at-clause-out c = λ b is. record {
  state = c.in-Some.state;
  at = c.in-Some.is;
  ways = c.in-Some-ways_at.ways.now;
  there = c.in-Some-ways_at.ensures;
  out = subst (λ n. IsOut c.in-Some-ways_at.ways.now n b) c.size.ensures (c.outs.ensures b (c.shared.ensures.right b is));
}
