-- Digits of a number may stand in a name.
use Rattle.std.proofs.Common.{◌≡◌, ℕ, ◌+◌, ◌%◌, ◌^◌, ◌<◌, true, List, [], ◌∷◌, ◌++◌, refl, ◌∙◌, arith}
use Rattle.std.proofs.lemmas.Bool.Decides.{nat_tests}
use Rattle.std.proofs.lemmas.Fmt.{decimal_by_steps}
use Rattle.std.proofs.lemmas.List.Folds.{list_all-append}
use Rattle.std.specs.Fmt.{decimal}
use Rattle.std.specs.List.{list_all}
use Rattle.gg_base.specs.Names.{is_name_part}

digit_part : (m : ℕ) → m < 10 → is_name_part (48 + m) ≡ true
digit_part m h = grind (arith, nat_tests)

digits_step : (m : ℕ) (ds : List ℕ) → list_all is_name_part ds ≡ true → list_all is_name_part (ds ++ (48 + m % 10) ∷ []) ≡ true
digits_step m ds h = list_all-append is_name_part ds ((48 + m % 10) ∷ []) ∙ rw (h, digit_part (m % 10) (omega arith)) refl

digit_one : (m : ℕ) → m < 10 → list_all is_name_part ((48 + m) ∷ []) ≡ true
digit_one m h = rw (digit_part m h) refl

pub digits_are_parts : (n : ℕ) → n < 2 ^ 64 → list_all is_name_part (decimal n) ≡ true
digits_are_parts = decimal_by_steps (λ m ds. list_all is_name_part ds ≡ true) (λ m l. digit_one m l) (λ m ds l h. digits_step m ds h)
