use Rattle.std.proofs.Common.{sym, ◌∙◌, subst, true≢false}
use Rattle.std.proofs.lemmas.Option.{same_Some, none-some}
use Rattle.lr_check_sets.specs.Automaton.{CanBlock}
use Rattle.lr_check_sets.specs.Table.{automaton_of}
use Rattle.lr_check_found.specs.declared.places.Place.{Place}
use Rattle.lr_check_found.specs.Found.{IsPlaceAt}
use Rattle.lr_check_found.proofs.Reading.{looked_at}
use Rattle.lr_check_complete.proofs.Both.{not_there}
use Rattle.lr_check_decided.proofs.Faulty.{is_dead_at, block_here, block_there}
use Rattle.lr_check_decided.proofs.gaps.is_dead.Goals as goal

pub returns-in-None-clause-none : goal.returns-in-None-clause-none
returns-in-None-clause-none c = λ u x p there behind can. none-some p (sym c.in-None.is ∙ behind)

pub returns-in-None-get-clause-none : goal.returns-in-None-get-clause-none
returns-in-None-get-clause-none c = λ u x p there behind can. not_there c.places.result.now c.args.found.now.places c.args.settling.now.place x c.places.ensures c.in-None-get.ensures.lookup.0 there

pub returns : goal.returns
returns c =
    let t = c.args.tables.now in
    let f = c.args.found.now in
    let e = c.args.settling.now in
    let x = c.in-Some-get.place.now in
    let there : IsPlaceAt f e.place x = looked_at c.places.result.now f.places e.place x c.places.ensures c.in-Some-get.ensures.lookup.0 c.in-Some-get.ensures.lookup.1 in
    record {
      some = λ i found at u. is_dead_at (automaton_of t) f i c.in-Some.state e x found at there c.in-Some.is
          (block_there t c.in-Some.state x.behind _ _ _ c.description.ensures c.rules-rules.ensures c.action.ensures.value (c.can_block.ensures.real u));
      none = λ u y p other behind can. true≢false (sym (c.can_block.ensures.blocks
          (block_here t c.in-Some.state x.behind _ _ _ c.description.ensures c.rules-rules.ensures c.action.ensures.value
          (subst (λ j. CanBlock ((automaton_of t).candidates j x.behind)) (same_Some p c.in-Some.state (sym behind ∙ c.in-Some.is))
          (subst (λ (z : Place). CanBlock ((automaton_of t).candidates p z.behind)) (same_Some y x (sym other ∙ there)) can)))) ∙ u);
    }
