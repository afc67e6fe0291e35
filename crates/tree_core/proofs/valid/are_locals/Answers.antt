use Rattle.std.proofs.Common.{◌≡◌, ℕ, true, rules, tests}
use Rattle.std.specs.Prelude.{nat_lt}
use Rattle.std.proofs.lemmas.Iterator.{YieldsList-from_slice, cases_from_all}
use Rattle.tree_core.proofs.Elements.{all_decided}
use Rattle.tree_core.proofs.valid.are_locals.Goals as goal

pub returns : goal.returns
returns c =
    let P : ℕ → Type 0 = λ n. nat_lt n c.args.locals ≡ true in
    all_decided P c.all.result c.args.numbers.now
    (cases_from_all _ _ c.all.result P (λ x. P x → ⊥) c.all.ensures.ran (YieldsList-from_slice c.args.numbers.now cc)
    (λ x q k. search (rules, tests)) (λ x q k. search (rules, tests)))
