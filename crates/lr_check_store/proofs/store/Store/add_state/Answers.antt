use Rattle.std.proofs.Common.{subst}
use Rattle.std.specs.Prelude.{IfSome, Option}
use Rattle.lr_check_found.specs.lr_check_sets.specs.Table.{automaton_of}
use Rattle.lr_check_ways.specs.declared.ways.Ways.{Ways}
use Rattle.lr_check_ways.specs.Ways.{AreWays}
use Rattle.lr_check_store.proofs.store.Store.add_state.Goals as goal

pub returns-in-Some : goal.returns-in-Some
returns-in-Some c =
    let A = automaton_of c.args.tables.now in
    c.add_ways.ensures A c.loop-token.invariant (subst (λ (o : Option Ways). IfSome o (λ w. AreWays A c.args.state w)) c.in-Some.is c.in_ok-ways.ensures)
