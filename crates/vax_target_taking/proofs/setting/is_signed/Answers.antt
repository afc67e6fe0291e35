use Rattle.std.proofs.Common.{rules, ◌≡◌, ◌∙◌, Bool, true, false, List, [], ◌∷◌, refl}
use Rattle.std.specs.List.{list_any}
use Rattle.std.proofs.lemmas.Iterator.{YieldsList-from_slice}
use Rattle.std.proofs.lemmas.Iterator.Search.{any_from_yields_List}
use borrow.Author.Tests.{tests}
use Rattle.md_reader.specs.declared.types.Restriction.{Restriction}
use Rattle.md_reader.specs.declared.types.Restriction.TheVariants as restriction
use Rattle.vax_templates.specs.Settings.{is_signed}
use Rattle.vax_target_taking.proofs.setting.is_signed.Goals as goal

abbrev asks_sign : Restriction → Bool
asks_sign (restriction.Signed i) = true
asks_sign r = false

some_sign : (rs : List Restriction) → list_any asks_sign rs ≡ is_signed rs
some_sign [] = refl
some_sign (restriction.Same i j ∷ rs) = some_sign rs
some_sign (restriction.Range i low high ∷ rs) = some_sign rs
some_sign (restriction.Signed i ∷ rs) = refl

pub returns : goal.returns
returns c =
    let restrictions = c.args.restrictions.now in
    any_from_yields_List asks_sign _ _ _ c.any.ensures.ran (YieldsList-from_slice restrictions cc) (λ x b q k. search (rules, tests)) ∙ some_sign restrictions
