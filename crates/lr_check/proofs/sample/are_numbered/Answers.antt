use Rattle.std.proofs.Common.{rules, arith, length, sym, ◌∙◌}
use Rattle.std.proofs.lemmas.Bool.{eqb-false}
use Rattle.std.proofs.lemmas.Iterator.{YieldsList-from_slice, cases_from_all}
use Rattle.std.proofs.lemmas.Iterator.Consumers.{YieldsList-from_enumerate}
use borrow.Author.Tests.{tests}
use Rattle.lr_check.proofs.Numbered.{IsAbove, NotAbove, numbered}
use Rattle.lr_check.proofs.sample.are_numbered.Goals as goal

pub returns-then-not-is_empty : goal.returns-then-not-is_empty
returns-then-not-is_empty c =
    let nodes = c.args.nodes.now in
    numbered nodes c.all.result (omega (arith, eqb-false (length nodes) 0 (sym c.is_empty.ensures ∙ c.if-not-is_empty.true)))
    (cases_from_all {s = c.enumerate.result} c.all.new.self _ c.all.result IsAbove NotAbove c.all.ensures.ran
    (YieldsList-from_enumerate (YieldsList-from_slice nodes cc) c.enumerate.ensures.count) (λ x q k. search (rules, tests)) (λ x q k. search (rules, tests)))
