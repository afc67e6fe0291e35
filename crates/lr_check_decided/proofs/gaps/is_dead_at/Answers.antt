use Rattle.std.proofs.Common.{◌≡◌, Some, sym, ◌∙◌, subst}
use Rattle.std.proofs.lemmas.Option.{same_Some}
use Rattle.lr_check_sets.specs.Automaton.{CanBlock}
use Rattle.lr_check_sets.specs.Table.{automaton_of}
use Rattle.lr_check_found.specs.declared.settlings.Settling.{Settling}
use Rattle.lr_check_found.specs.Found.{IsPlaceAt, IsSettlingAt}
use Rattle.lr_check_found.proofs.Reading.{looked_at}
use Rattle.lr_check_complete.proofs.Both.{not_there}
use Rattle.lr_check_decided.proofs.gaps.is_dead_at.Goals as goal

pub returns-in-Some : goal.returns-in-Some
returns-in-Some c =
    let f = c.args.found.now in
    let e = c.in-Some.settling.now in
    let at : IsSettlingAt f c.args.number e = looked_at c.settlings.result.now f.settlings c.args.number e c.settlings.ensures c.in-Some.ensures.lookup.0 c.in-Some.ensures.lookup.1 in
    record {
      some = λ u. c.is_dead.ensures.some c.args.number c.requires at u;
      none = λ u d x p other. subst (λ (z : Settling). IsPlaceAt f z.place x → z.behind ≡ Some p → CanBlock ((automaton_of c.args.tables.now).candidates p x.behind) → ⊥)
          (same_Some e d (sym at ∙ other)) (c.is_dead.ensures.none u x p);
    }

pub returns-in-None-clause-none : goal.returns-in-None-clause-none
returns-in-None-clause-none c = λ u d x p at there behind can. not_there c.settlings.result.now c.args.found.now.settlings c.args.number d c.settlings.ensures c.in-None.ensures.lookup.0 at
