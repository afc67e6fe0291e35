use Rattle.std.proofs.Common.{◌≡◌, ℕ, Some, length, ap, rules, tests, arith}
use Rattle.std.proofs.lemmas.Iterator.{first_from_Range}
use Rattle.std.proofs.lemmas.Option.{slice_get_within}
use Rattle.md_reader.specs.declared.types.Sym.TheVariants as grammar_symbol
use Rattle.lr_check_sets.specs.Table.{automaton_of}
use Rattle.lr_check_found.specs.declared.places.Place.{Place}
use Rattle.lr_check_found.specs.Found.{IsPlaceAt}
use Rattle.lr_check_flaws.specs.Flaws.{IsGapAt}
use Rattle.lr_check_decided.proofs.Firsts.{first_is, none_is_there, if_none}
use Rattle.lr_check_decided.proofs.gaps.find_gap.Goals as goal

pub returns-clause-some : goal.returns-clause-some
returns-clause-some c =
    let A = automaton_of c.args.tables.now in
    let found = c.args.found.now in
    first_is (IsGapAt A found) (λ n. (x : Place) → IsPlaceAt found n x → (p : ℕ) × (A.go x.state (grammar_symbol.Tok x.token) ≡ Some p)) _ c.find.result
    (first_from_Range _ _ _ c.find.result (IsGapAt A found) _ c.find.ensures.ran (λ n q k. search (rules, tests)) (λ n q k. search (rules, tests)))

pub returns-clause-none : goal.returns-clause-none
returns-clause-none c =
    let A = automaton_of c.args.tables.now in
    let found = c.args.found.now in
    let No : ℕ → Type 0 = λ n. (x : Place) → IsPlaceAt found n x → (p : ℕ) × (A.go x.state (grammar_symbol.Tok x.token) ≡ Some p) in
    if_none c.find.result _ _
    (λ h n x at. h n (let lt = slice_get_within found.places n x at in omega (arith, lt, ap length c.places.ensures)) x at)
    (none_is_there (IsGapAt A found) No _ c.find.result
    (first_from_Range _ _ _ c.find.result (IsGapAt A found) No c.find.ensures.ran (λ n q k. search (rules, tests)) (λ n q k. search (rules, tests))))
