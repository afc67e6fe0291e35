use Rattle.lr_check_store.proofs.store.Store.stands_at.Goals as goal

pub returns-in-Some : goal.returns-in-Some
returns-in-Some c = λ u. record { row = c.in-Some.row.now; there = c.in-Some.ensures; state = c.is_of.ensures.state u; token = c.is_of.ensures.token u }
