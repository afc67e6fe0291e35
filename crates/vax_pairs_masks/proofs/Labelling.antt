-- A label that is found stands in the code.
use Rattle.std.proofs.Common.{◌≡◌, ℕ, ◌+◌, ◌<◌, Bool, true, false, cond, List, [], ◌∷◌, length, Option, Some, arith}
use Rattle.std.proofs.lemmas.Option.{same_Some}
use Rattle.vax_core.specs.declared.code.CodeItem.{CodeItem}
use Rattle.vax_machine.specs.Labels.{is_label}
use Rattle.vax_machine.specs.Tables.{place_in}

within_by : (b : Bool) (k p n : ℕ) (o : Option ℕ) → (o ≡ Some p → p < k + 1 + n) → cond b (Some k) o ≡ Some p → p < k + (n + 1)
within_by true k p n o h e = let s = same_Some k p e in omega (arith, s)
within_by false k p n o h e = omega (arith, h e)

pub within : (items : List CodeItem) (k p : ℕ) (name : List ℕ) → place_in items k name ≡ Some p → p < k + length items
within [] k p name e = absurd (cc)
within (item ∷ items) k p name e =
    let h = within_by (is_label item name) k p (length items) (place_in items (k + 1) name) (within items (k + 1) p name) e in omega (arith, h)
