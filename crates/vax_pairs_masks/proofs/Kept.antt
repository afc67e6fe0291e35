-- Where each item keeps the masks, the code does.
use Rattle.std.proofs.Common.{◌≡◌, ℕ, ◌<◌, Bool, true, false, List, length, Option, Some, refl, ap, subst}
use Rattle.std.proofs.lemmas.Option.{slice_get_within}
use Rattle.std.specs.Prelude.{slice_get, ◌==◌}
use Rattle.std.specs.Int.{bit_at}
use Rattle.gg_base.specs.Numbers.{truth}
use Rattle.vax_core.specs.declared.code.CodeItem.{CodeItem}
use Rattle.vax_core.specs.declared.code.CodeItem.TheVariants as item_kind
use Rattle.vax_pairs.specs.Functions.{has}
use Rattle.vax_pairs_checked.specs.Masks.{KeepsMasks}
use Rattle.vax_pairs_masks.specs.Keeping.{Goes, SomeKeeps, ItemKeeps}

-- a register that isn't in the set isn't named
pub unnamed : (set r : ℕ) (b : Bool) → bit_at set r ≡ truth b → has set r ≡ false → b ≡ false
unnamed set r true e h = let there : has set r ≡ true = ap (λ (n : ℕ). n == 1) e in absurd (cc)
unnamed set r false e h = refl

module _ (items : List CodeItem) (keep : (k : ℕ) → k < length items → ItemKeeps items k) where
  at : (place : ℕ) (item : CodeItem) → slice_get items place ≡ Some item → SomeKeeps items place (Some item)
  at place item e = subst (λ (o : Option CodeItem). SomeKeeps items place o) e (keep place (slice_get_within items place item e))

  pub all_kept : KeepsMasks items
  all_kept = record {
    result = λ place mask e. at place (item_kind.Mask mask) e;
    names = λ place mask i e inside. (at place (item_kind.Instr i) e mask inside).names;
    goes = λ place mask i l e inside target branch.
        subst (λ (t : Option (List ℕ)). Goes items mask t) target ((at place (item_kind.Instr i) e mask inside).goes branch);
  }
