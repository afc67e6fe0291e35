use Rattle.std.proofs.Common.{rules, ◌≡◌, ◌+◌, ◌++◌, ◌∙◌, ℕ, zero, suc, List, [], ◌∷◌, length, map, refl, sym, ap, subst, add-one, arith}
use Rattle.std.specs.List.{range_with_len}
use Rattle.std.proofs.lemmas.Iterator.{YieldsList-from_range, YieldsList-from_map, items_from_collect}
use Rattle.std.proofs.lemmas.List.FromFn.{map-range_with_len_more}
use Rattle.std.proofs.lemmas.Result.{IfOk-at_ok}
use borrow.Author.Tests.{tests}
use Rattle.md_reader.specs.declared.types.Class.{Class}
use Rattle.md_reader.specs.declared.types.Rule.{Rule}
use Rattle.term_core.specs.declared.facts.Fact.{Fact}
use Rattle.term_core.specs.Normal.{AreSettled}
use Rattle.sel_terms.specs.RuleFacts.{fact_of, facts_below}
use Rattle.sel_terms.proofs.Settled.{facts_settled}
use Rattle.sel_terms.proofs.known.rule_facts.Goals as goal

facts_mapped : (classes : List Class) (rule : Rule) (k : ℕ) → map (fact_of classes rule) (range_with_len 0 k) ≡ facts_below classes rule k
facts_mapped classes rule zero = refl
facts_mapped classes rule (suc k) =
    ap (λ n. map (fact_of classes rule) (range_with_len 0 n)) (sym (add-one k))
    ∙ (map-range_with_len_more (fact_of classes rule) 0 k k (omega arith) ∙ ap (λ facts. facts ++ fact_of classes rule k ∷ []) (facts_mapped classes rule k))

pub returns-clause-said : goal.returns-clause-said
returns-clause-said c =
    let classes = c.args.classes.now in
    let rule = c.args.rule.now in
    let count = length rule.right + 1 in
    let kept = items_from_collect c.collect.result c.collect.ensures.ran
    (YieldsList-from_map _ (fact_of classes rule) (YieldsList-from_range 0 count count (cc) (omega arith)) c.map.ensures.closure (λ x r q k. search (rules, tests))) in
    IfOk-at_ok (λ v. v.items ≡ map (fact_of classes rule) (range_with_len 0 count)) c.in_ok-facts.was kept
    ∙ facts_mapped classes rule count

pub returns-clause-settled : goal.returns-clause-settled
returns-clause-settled c =
    subst (λ (facts : List Fact). AreSettled facts) (sym (returns-clause-said c)) (facts_settled c.args.classes.now c.args.rule.now (length c.args.rule.now.right + 1))
