use Rattle.std.proofs.Common.{◌≡◌, ℕ, Some, length, ap, rules, tests, arith}
use Rattle.std.proofs.lemmas.Iterator.{first_from_Range, serves_from_Range}
use Rattle.std.proofs.lemmas.Option.{slice_get_within}
use Rattle.lr_check_sets.specs.Automaton.{CanBlock}
use Rattle.lr_check_sets.specs.Table.{automaton_of}
use Rattle.lr_check_found.specs.declared.places.Place.{Place}
use Rattle.lr_check_found.specs.declared.settlings.Settling.{Settling}
use Rattle.lr_check_found.specs.Found.{IsPlaceAt, IsSettlingAt}
use Rattle.lr_check_flaws.specs.Flaws.{IsDeadAt}
use Rattle.lr_check_decided.proofs.Firsts.{first_is, none_is_there, if_none}
use Rattle.lr_check_decided.proofs.gaps.find_dead.Goals as goal

pub find-requires : goal.find-requires
find-requires c = record { can = tt; finite = tt; callable = serves_from_Range (λ x q k. search (rules, tests)) (λ x low high y is. c.requires) }

pub returns-clause-some : goal.returns-clause-some
returns-clause-some c =
    let A = automaton_of c.args.tables.now in
    let found = c.args.found.now in
    let No : ℕ → Type 0 = λ i. (e : Settling) (x : Place) (p : ℕ) → IsSettlingAt found i e → IsPlaceAt found e.place x → e.behind ≡ Some p → CanBlock (A.candidates p x.behind) → ⊥ in
    first_is (IsDeadAt A found) No _ c.find.result
    (first_from_Range _ _ _ c.find.result (IsDeadAt A found) No c.find.ensures.ran (λ n q k. search (rules, tests)) (λ n q k. search (rules, tests)))

pub returns-clause-none : goal.returns-clause-none
returns-clause-none c =
    let A = automaton_of c.args.tables.now in
    let found = c.args.found.now in
    let No : ℕ → Type 0 = λ i. (e : Settling) (x : Place) (p : ℕ) → IsSettlingAt found i e → IsPlaceAt found e.place x → e.behind ≡ Some p → CanBlock (A.candidates p x.behind) → ⊥ in
    if_none c.find.result _ _
    (λ h i e x p at. h i (let lt = slice_get_within found.settlings i e at in omega (arith, lt, ap length c.settlings.ensures)) e x p at)
    (none_is_there (IsDeadAt A found) No _ c.find.result
    (first_from_Range _ _ _ c.find.result (IsDeadAt A found) No c.find.ensures.ran (λ n q k. search (rules, tests)) (λ n q k. search (rules, tests))))
