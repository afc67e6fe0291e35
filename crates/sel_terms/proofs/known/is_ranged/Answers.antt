use Rattle.std.proofs.Common.{◌≡◌, ℕ, List, [], ◌∷◌, Bool, true, false, refl, ◌∙◌, rules, tests}
use Rattle.std.specs.Prelude.{◌||◌}
use Rattle.std.specs.List.{list_any}
use Rattle.std.proofs.lemmas.Iterator.{YieldsList-from_slice}
use Rattle.std.proofs.lemmas.Iterator.Search.{any_from_yields_List}
use Rattle.md_reader.specs.declared.types.Restriction.{Restriction}
use Rattle.md_reader.specs.declared.types.Restriction.TheVariants as restriction
use Rattle.sel_terms.specs.RuleFacts.{is_ranged}
use Rattle.sel_terms.proofs.known.is_ranged.Goals as goal

abbrev is_range_of : ℕ → Restriction → Bool
is_range_of i r = is_ranged (r ∷ []) i

one_more : (b p q : Bool) → p ≡ q → ((b || false) || p) ≡ (b || q)
one_more true p q e = refl
one_more false p q e = e

some_ranged : (i : ℕ) (rs : List Restriction) → list_any (is_range_of i) rs ≡ is_ranged rs i
some_ranged i [] = refl
some_ranged i (restriction.Same j k ∷ rs) = some_ranged i rs
some_ranged i (restriction.Range j low high ∷ rs) = one_more _ _ _ (some_ranged i rs)
some_ranged i (restriction.Signed j ∷ rs) = some_ranged i rs

pub returns : goal.returns
returns c =
    any_from_yields_List (is_range_of c.args.i) c.any.new.self _ c.any.result c.any.ensures.ran (YieldsList-from_slice c.args.restrictions.now cc) (λ x b q k. search (rules, tests))
    ∙ some_ranged c.args.i c.args.restrictions.now
