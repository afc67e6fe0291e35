-- Where a code keeps its masks, each of its functions names only registers of its mask.
use Rattle.std.proofs.Common.{◌≡◌, ◌⊎◌, inl, inr, ℕ, zero, suc, ◌+◌, false, List, [], ◌∷◌, drop, Option, Some, None, refl, ap, ◌∙◌, arith}
use Rattle.std.proofs.lemmas.Option.{same_Some}
use Rattle.std.specs.Prelude.{slice_get}
use Rattle.vax_pairs.specs.vax_core.specs.declared.code.CodeItem.{CodeItem}
use Rattle.vax_pairs.specs.vax_core.specs.declared.code.CodeItem.TheVariants as item_kind
use Rattle.vax_pairs.specs.vax_machine.specs.Labels.{skipped, next_item, label_place}
use Rattle.vax_pairs.specs.vax_machine.specs.Calls.{entry_mask}
use Rattle.vax_pairs.specs.Functions.{Functions, has}
use Rattle.vax_pairs_checked.specs.Masks.{mask_behind, mask_at, InFunction, KeepsMasks}

-- labels and `.globl` lines are no masks
skipped_behind : (items : List CodeItem) (old : Option ℕ) → mask_behind old items (skipped items) ≡ old
skipped_behind [] old = refl
skipped_behind (item_kind.Label name ∷ items) old = ap (λ (n : ℕ). mask_behind old (item_kind.Label name ∷ items) n) (more (skipped items)) ∙ skipped_behind items old where
  more : (n : ℕ) → n + 1 ≡ suc n
  more n = omega arith
skipped_behind (item_kind.Globl name ∷ items) old = ap (λ (n : ℕ). mask_behind old (item_kind.Globl name ∷ items) n) (more (skipped items)) ∙ skipped_behind items old where
  more : (n : ℕ) → n + 1 ≡ suc n
  more n = omega arith
skipped_behind (item_kind.Mask mask ∷ items) old = refl
skipped_behind (item_kind.Instr i ∷ items) old = refl

nothing_behind : (old : Option ℕ) (n : ℕ) → mask_behind old [] n ≡ old
nothing_behind old zero = refl
nothing_behind old (suc n) = refl

next_at : (items : List CodeItem) (old : Option ℕ) (place n k : ℕ) → n ≡ place + k → skipped (drop place items) ≡ k → mask_behind old items n ≡ mask_behind old items place
next_at items old zero n k e s = ap (mask_behind old items) (omega (arith, e, s)) ∙ skipped_behind items old
next_at [] old (suc p) n k e s = nothing_behind old n
next_at (item ∷ items) old (suc p) zero k e s = absurd (omega (arith, e))
next_at (item_kind.Mask mask ∷ items) old (suc p) (suc n) k e s = next_at items (Some mask) p n k (omega (arith, e)) s
next_at (item_kind.Label name ∷ items) old (suc p) (suc n) k e s = next_at items old p n k (omega (arith, e)) s
next_at (item_kind.Globl name ∷ items) old (suc p) (suc n) k e s = next_at items old p n k (omega (arith, e)) s
next_at (item_kind.Instr i ∷ items) old (suc p) (suc n) k e s = next_at items old p n k (omega (arith, e)) s

next_behind : (items : List CodeItem) (old : Option ℕ) (place : ℕ) → mask_behind old items (next_item items place) ≡ mask_behind old items place
next_behind items old place = next_at items old place (next_item items place) (skipped (drop place items)) refl refl

-- one item more
abbrev at_item : Option ℕ → Option CodeItem → Option ℕ
at_item old (Some (item_kind.Mask mask)) = Some mask
at_item old item = old

one_behind : (items : List CodeItem) (old : Option ℕ) (n : ℕ) → mask_behind old items (suc n) ≡ at_item (mask_behind old items n) (slice_get items n)
one_behind [] old zero = refl
one_behind [] old (suc n) = refl
one_behind (item_kind.Mask mask ∷ items) old zero = refl
one_behind (item_kind.Label name ∷ items) old zero = refl
one_behind (item_kind.Globl name ∷ items) old zero = refl
one_behind (item_kind.Instr i ∷ items) old zero = refl
one_behind (item_kind.Mask mask ∷ items) old (suc n) = one_behind items (Some mask) n
one_behind (item_kind.Label name ∷ items) old (suc n) = one_behind items old n
one_behind (item_kind.Globl name ∷ items) old (suc n) = one_behind items old n
one_behind (item_kind.Instr i ∷ items) old (suc n) = one_behind items old n

-- a mask that is found so is one from before, or stands in the code
abbrev Stands : ℕ → Option ℕ → List CodeItem → Type 0
Stands mask old items = (old ≡ Some mask) ⊎ ((n : ℕ) × (slice_get items n ≡ Some (item_kind.Mask mask)))

behind_mask : (v mask : ℕ) (old : Option ℕ) (items : List CodeItem) → Stands mask (Some v) items → Stands mask old (item_kind.Mask v ∷ items)
behind_mask v mask old items (inl e) = inr (zero, ap (λ (n : ℕ). Some (item_kind.Mask n)) (same_Some v mask e))
behind_mask v mask old items (inr h) = inr (suc h.0, h.1)

behind_other : (item : CodeItem) (mask : ℕ) (old : Option ℕ) (items : List CodeItem) → Stands mask old items → Stands mask old (item ∷ items)
behind_other item mask old items (inl e) = inl e
behind_other item mask old items (inr h) = inr (suc h.0, h.1)

mask_stands : (items : List CodeItem) (mask : ℕ) (old : Option ℕ) (n : ℕ) → mask_behind old items n ≡ Some mask → Stands mask old items
mask_stands items mask old zero e = inl e
mask_stands [] mask old (suc n) e = inl e
mask_stands (item_kind.Mask v ∷ items) mask old (suc n) e = behind_mask v mask old items (mask_stands items mask (Some v) n e)
mask_stands (item_kind.Label name ∷ items) mask old (suc n) e = behind_other _ mask old items (mask_stands items mask old n e)
mask_stands (item_kind.Globl name ∷ items) mask old (suc n) e = behind_other _ mask old items (mask_stands items mask old n e)
mask_stands (item_kind.Instr i ∷ items) mask old (suc n) e = behind_other _ mask old items (mask_stands items mask old n e)

module _ (items : List CodeItem) (keeps : KeepsMasks items) where
  result_by : (mask : ℕ) → Stands mask None items → has mask 0 ≡ false
  result_by mask (inl e) = absurd (cc)
  result_by mask (inr h) = keeps.result h.0 mask h.1

  at_next : (mask place : ℕ) → InFunction items mask place → InFunction items mask (next_item items place)
  at_next mask place inside = next_behind items None place ∙ inside

  behind : (n : ℕ) → mask_at items (n + 1) ≡ at_item (mask_at items n) (slice_get items n)
  behind n = ap (mask_at items) (more n) ∙ one_behind items None n where
    more : (n : ℕ) → n + 1 ≡ suc n
    more n = omega arith

  is_mask : (item : Option CodeItem) (mask : ℕ) → entry_mask item ≡ Some mask → item ≡ Some (item_kind.Mask mask)
  is_mask None mask e = absurd (cc)
  is_mask (Some (item_kind.Label name)) mask e = absurd (cc)
  is_mask (Some (item_kind.Globl name)) mask e = absurd (cc)
  is_mask (Some (item_kind.Mask v)) mask e = ap (λ (n : ℕ). Some (item_kind.Mask n)) (same_Some v mask e)
  is_mask (Some (item_kind.Instr i)) mask e = absurd (cc)

  pub kept_masks : Functions items (InFunction items)
  kept_masks = record {
    result = λ mask place inside. result_by mask (mask_stands items mask None place inside);
    names = λ mask place i inside at. keeps.names (next_item items place) mask i at (at_next mask place inside);
    behind = λ mask place i inside at. behind (next_item items place) ∙ ap (at_item (mask_at items (next_item items place))) at ∙ at_next mask place inside;
    goes = λ mask place i l inside at target branch. keeps.goes (next_item items place) mask i l at (at_next mask place inside) target branch;
    enters = λ l mask e. behind (next_item items (label_place items l))
        ∙ ap (at_item (mask_at items (next_item items (label_place items l)))) (is_mask _ mask e);
  }
