use Rattle.std.proofs.Common.{subst}
use Rattle.md_reader.specs.Valid.{IsValid}
use Rattle.lr_check_sets.specs.Table.{automaton_of}
use Rattle.lr_check_found.proofs.Counting.{has_more}
use Rattle.lr_check_decided.proofs.deciding.decided_by_places.Goals as goal

pub find_flaw-requires-clause-classes : goal.find_flaw-requires-clause-classes
find_flaw-requires-clause-classes c = (c.tables_meet_laws.ensures c.args.tables.now (subst IsValid c.description.ensures c.is_valid.ensures) c.is_numbered.ensures).classes

pub returns-in-None : goal.returns-in-None
returns-in-None c =
    rw c.tuples.ensures (
      rw c.in-None.is at c.in_ok-flaw.ensures.none,
      record { few = c.in-Ok.ensures.few; many = λ m lt. has_more (automaton_of c.args.tables.now) c.in-Ok.found c.in-Ok.ensures.complete.found m lt },
      c.in-Ok.ensures.within,
    )
