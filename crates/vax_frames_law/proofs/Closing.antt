-- A code whose instructions keep within their functions, item by item, is guarded.
use Rattle.std.proofs.Common.{◌≡◌, ℕ, zero, suc, ◌+◌, List, [], ◌∷◌, drop, Option, Some, refl, ap, subst, ◌∙◌, arith}
use Rattle.std.specs.Prelude.{slice_get}
use Rattle.vax_core.specs.declared.code.Instr.{Instr}
use Rattle.vax_core.specs.declared.code.CodeItem.{CodeItem}
use Rattle.vax_core.specs.declared.code.CodeItem.TheVariants as item_kind
use Rattle.vax_machine.specs.Labels.{skipped, next_item}
use Rattle.vax_frames_law.specs.Within.{mask_of, mask_from, RunsOn, IsClosedAt, AreClosed, ClosedIsGuarded}

-- the place of the instruction to which items run on is under the same mask
pub runs_on : (k : ℕ) (list : List CodeItem) → RunsOn list → mask_from k list (skipped list) ≡ k
runs_on k [] h = absurd h
runs_on k (item_kind.Label l ∷ rest) h = let z : skipped rest + 1 ≡ suc (skipped rest) = omega arith in ap (mask_from k (item_kind.Label l ∷ rest)) z ∙ runs_on k rest h
runs_on k (item_kind.Globl l ∷ rest) h = let z : skipped rest + 1 ≡ suc (skipped rest) = omega arith in ap (mask_from k (item_kind.Globl l ∷ rest)) z ∙ runs_on k rest h
runs_on k (item_kind.Mask mask ∷ rest) h = absurd h
runs_on k (item_kind.Instr i ∷ rest) h = refl

on_from : (k p : ℕ) (list : List CodeItem) → RunsOn (drop (suc p) list) → mask_from k list (suc p + skipped (drop (suc p) list)) ≡ mask_from k list p
on_from k zero [] h = absurd h
on_from k (suc p) [] h = absurd h
on_from k zero (x ∷ rest) h = let z : 1 + skipped rest ≡ suc (skipped rest) = omega arith in ap (mask_from k (x ∷ rest)) z ∙ runs_on (mask_of x k) rest h
on_from k (suc p) (x ∷ rest) h =
    let z : suc (suc p) + skipped (drop (suc p) rest) ≡ suc (suc p + skipped (drop (suc p) rest)) = omega arith in
    ap (mask_from k (x ∷ rest)) z ∙ on_from (mask_of x k) p rest h

on_to : (code : List CodeItem) (p : ℕ) → RunsOn (drop (suc p) code) → mask_from 0 code (next_item code (p + 1)) ≡ mask_from 0 code p
on_to code p h =
    let z : p + 1 ≡ suc p = omega arith in
    ap (λ (q : ℕ). mask_from 0 code (next_item code q)) z ∙ on_from 0 p code h

module _ (code : List CodeItem) where
  -- what is said of an instruction among the items
  closed_at : (k : ℕ) (list : List CodeItem) → AreClosed code k list → (p : ℕ) (i : Instr) → slice_get list p ≡ Some (item_kind.Instr i) → IsClosedAt code (mask_from k list p) i (drop (suc p) list)
  closed_at k [] h zero i e = absurd cc
  closed_at k [] h (suc p) i e = absurd cc
  closed_at k (item_kind.Label l ∷ rest) h zero i e = absurd cc
  closed_at k (item_kind.Globl l ∷ rest) h zero i e = absurd cc
  closed_at k (item_kind.Mask mask ∷ rest) h zero i e = absurd cc
  closed_at k (item_kind.Instr j ∷ rest) h zero i e = subst (λ (x : Instr). IsClosedAt code k x rest) (same j i e) h.0
    where
      same : (j i : Instr) → ◌≡◌ {A = Option CodeItem} (Some (item_kind.Instr j)) (Some (item_kind.Instr i)) → j ≡ i
      same j i e = cc
  closed_at k (item_kind.Label l ∷ rest) h (suc p) i e = closed_at k rest h p i e
  closed_at k (item_kind.Globl l ∷ rest) h (suc p) i e = closed_at k rest h p i e
  closed_at k (item_kind.Mask mask ∷ rest) h (suc p) i e = closed_at mask rest h.1 p i e
  closed_at k (item_kind.Instr j ∷ rest) h (suc p) i e = closed_at k rest h.1 p i e

  -- and of a mask
  mask_at_is : (k : ℕ) (list : List CodeItem) → AreClosed code k list → (p mask : ℕ) → slice_get list p ≡ Some (item_kind.Mask mask) → RunsOn (drop (suc p) list) × (mask_from k list p ≡ mask)
  mask_at_is k [] h zero mask e = absurd cc
  mask_at_is k [] h (suc p) mask e = absurd cc
  mask_at_is k (item_kind.Label l ∷ rest) h zero mask e = absurd cc
  mask_at_is k (item_kind.Globl l ∷ rest) h zero mask e = absurd cc
  mask_at_is k (item_kind.Instr j ∷ rest) h zero mask e = absurd cc
  mask_at_is k (item_kind.Mask n ∷ rest) h zero mask e = (h.0, same n mask e)
    where
      same : (n mask : ℕ) → ◌≡◌ {A = Option CodeItem} (Some (item_kind.Mask n)) (Some (item_kind.Mask mask)) → n ≡ mask
      same n mask e = cc
  mask_at_is k (item_kind.Label l ∷ rest) h (suc p) mask e = mask_at_is k rest h p mask e
  mask_at_is k (item_kind.Globl l ∷ rest) h (suc p) mask e = mask_at_is k rest h p mask e
  mask_at_is k (item_kind.Mask n ∷ rest) h (suc p) mask e = mask_at_is n rest h.1 p mask e
  mask_at_is k (item_kind.Instr j ∷ rest) h (suc p) mask e = mask_at_is k rest h.1 p mask e

pub closed_is_guarded : ClosedIsGuarded
closed_is_guarded code h = record {
  named = λ p i r there low high e. (closed_at code 0 code h p i there).named r low high e;
  onward = λ p i there passes. on_to code p ((closed_at code 0 code h p i there).onward passes);
  branch = λ p i label there target no_call. (closed_at code 0 code h p i there).branch label target no_call;
  entry = λ p mask there. let m = mask_at_is code 0 code h p mask there in on_to code p m.0 ∙ m.1;
}
