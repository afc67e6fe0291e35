use Rattle.std.proofs.Common.{rules}
use borrow.Author.Tests.{tests}
use Rattle.std.proofs.lemmas.Iterator.{first_from_Range}
use Rattle.sel_regs.proofs.Lowest.{IsFreeAt, found_is_free, found_is_lowest, none_is_free}
use Rattle.sel_regs.proofs.pool.lowest.Goals as goal

pub returns-clause-none : goal.returns-clause-none
returns-clause-none c =
    let all = c.args.registers.now in
    none_is_free all c.find.result (search rules)
    (first_from_Range _ _ _ _ (IsFreeAt all) (λ k. IsFreeAt all k → ⊥) c.find.ensures.ran (λ x q k. search (rules, tests)) (λ x q k. search (rules, tests)))

pub returns-clause-free : goal.returns-clause-free
returns-clause-free c =
    let all = c.args.registers.now in
    found_is_free all c.find.result
    (first_from_Range _ _ _ _ (IsFreeAt all) (λ k. IsFreeAt all k → ⊥) c.find.ensures.ran (λ x q k. search (rules, tests)) (λ x q k. search (rules, tests)))

pub returns-clause-lowest : goal.returns-clause-lowest
returns-clause-lowest c =
    let all = c.args.registers.now in
    found_is_lowest all c.find.result
    (first_from_Range _ _ _ _ (IsFreeAt all) (λ k. IsFreeAt all k → ⊥) c.find.ensures.ran (λ x q k. search (rules, tests)) (λ x q k. search (rules, tests)))
