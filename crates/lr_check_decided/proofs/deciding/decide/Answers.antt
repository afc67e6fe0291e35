use Rattle.std.proofs.Common.{ℕ}
use Rattle.lr_check_sets.specs.Table.{automaton_of}
use Rattle.lr_check_masks.specs.Flawless.{IsFlawless}
use Rattle.lr_check_decided.proofs.Calming.{some_at}
use Rattle.lr_check_decided.proofs.deciding.decide.Goals as goal

pub returns-in-Some : goal.returns-in-Some
returns-in-Some c =
    let h : IsFlawless (automaton_of c.args.tables.now) c.in-Some.tuples =
    some_at _ c.in-Some.tuples (λ (n : ℕ). IsFlawless (automaton_of c.args.tables.now) n) c.in-Some.is c.in_ok-shown.ensures in
    (h.no_fault, record { few = h.few; many = h.many }, h.within)
