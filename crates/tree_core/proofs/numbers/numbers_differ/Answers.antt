use Rattle.std.proofs.Common.{sym, ◌∙◌, arith, refl}
use Rattle.tree_core.proofs.Windows.{once_goes, once_fails, once_ends, from_rises}
use Rattle.tree_core.proofs.numbers.numbers_differ.Goals as goal

pub returns-then-not-met_once : goal.returns-then-not-met_once
returns-then-not-met_once c = ((λ t. absurd cc), (λ h. absurd (once_fails c.args.numbers.now c.in-Some.base (sym c.met_once.ensures ∙ c.if-not-met_once.true) h)))

pub loop-base-smaller : goal.loop-base-smaller
loop-base-smaller c =
    let up = from_rises c.args.numbers.now c.loop-base.from c.in-Some.base (sym c.in-Some.ensures.least) in
    let small = c.in-Some.ensures.small in
    omega arith

pub loop-base-preserved : goal.loop-base-preserved
loop-base-preserved c =
    once_goes c.args.numbers.now c.loop-base.from c.in-Some.base (sym c.in-Some.ensures.least) (sym c.met_once.ensures ∙ c.if-not-met_once.false) c.loop-base.invariant

pub returns : goal.returns
returns c = ((λ t. once_ends c.args.numbers.now c.loop-base.from (sym c.in_default.ensures.least) c.loop-base.invariant), (λ h. refl))
