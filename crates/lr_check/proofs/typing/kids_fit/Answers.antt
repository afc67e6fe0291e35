use Rattle.std.proofs.Common.{rules, arith, sym, ◌∙◌}
use Rattle.std.proofs.lemmas.Iterator.{YieldsList-from_slice, YieldsList-from_zip}
use Rattle.std.proofs.lemmas.Iterator.Search.{all_from_yields_List}
use borrow.Author.Tests.{tests}
use Rattle.lr_check.proofs.Typed.{pair_fits, pairs_fit}
use Rattle.lr_check.proofs.typing.kids_fit.Goals as goal

pub returns-then-kids-sorts : goal.returns-then-kids-sorts
returns-then-kids-sorts c = λ yes.
    pairs_fit c.args.nodes.now c.args.kids.now c.args.sorts.now (omega (arith, c.if-kids-sorts.true))
    (sym
    (all_from_yields_List {s = c.zip.result} (pair_fits c.args.nodes.now) c.all.new.self _ _ c.all.ensures.ran
    (YieldsList-from_zip (YieldsList-from_slice c.args.kids.now cc) (YieldsList-from_slice c.args.sorts.now cc)) (λ x b q k. search (rules, tests))) ∙ yes)
