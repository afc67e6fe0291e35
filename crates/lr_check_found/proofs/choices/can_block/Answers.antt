use Rattle.std.proofs.Common.{rules}
use Rattle.std.proofs.lemmas.Iterator.{YieldsList-from_slice, cases_from_all}
use borrow.Author.Tests.{tests}
use Rattle.lr_check_found.proofs.Choosing.{Passes, Stops, told_where_blocked, blocked_where_told}
use Rattle.lr_check_found.proofs.choices.can_block.Goals as goal

pub returns-clause-blocks : goal.returns-clause-blocks
returns-clause-blocks c =
    told_where_blocked c.args.rules.now c.args.choices.now c.all.result
    (cases_from_all _ _ c.all.result (Passes c.args.rules.now) (Stops c.args.rules.now) c.all.ensures.ran (YieldsList-from_slice c.args.choices.now cc)
    (λ x q k. search (rules, tests)) (λ x q k. search (rules, tests)))

pub returns-clause-real : goal.returns-clause-real
returns-clause-real c =
    blocked_where_told c.args.rules.now c.args.choices.now c.all.result
    (cases_from_all _ _ c.all.result (Passes c.args.rules.now) (Stops c.args.rules.now) c.all.ensures.ran (YieldsList-from_slice c.args.choices.now cc)
    (λ x q k. search (rules, tests)) (λ x q k. search (rules, tests)))
