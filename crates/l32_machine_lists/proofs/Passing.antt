-- Labels are passed without a step.
use Rattle.std.proofs.Common.{◌≡◌, ℕ, zero, suc, ◌+◌, List, [], ◌∷◌, drop, Option, Some, None, refl, ap, ◌∙◌, arith}
use Rattle.std.specs.Prelude.{slice_get}
use Rattle.gg_base.specs.Runs.{one_first}
use Rattle.l32_core.specs.declared.code.Item32.{Item32}
use Rattle.l32_core.specs.declared.code.Item32.TheVariants as item_kind
use Rattle.l32_machine.specs.declared.turn.Stop32.{Stop32}
use Rattle.l32_machine.specs.State.{State}
use Rattle.l32_machine.specs.Labels.{skipped, next_item}
use Rattle.l32_machine.specs.Step.{Next, act, at_item, next_of, next_where}
use Rattle.l32_machine.specs.Running.{behind, steps}
use Rattle.l32_machine_lists.specs.Laws.{LabelsArePassed}

skips_label : (code : List Item32) (place : ℕ) (name : List ℕ) → slice_get code place ≡ Some (item_kind.Label name) → skipped (drop place code) ≡ skipped (drop (suc place) code) + 1
skips_label [] zero name e = absurd cc
skips_label [] (suc p) name e = absurd cc
skips_label (x ∷ xs) (suc p) name e = skips_label xs p name e
skips_label (x ∷ xs) zero name e = by x e
  where
    by : (x : Item32) → ◌≡◌ {A = Option Item32} (Some x) (Some (item_kind.Label name)) → skipped (x ∷ xs) ≡ skipped xs + 1
    by (item_kind.Label n) e = refl
    by (item_kind.Instr i) e = absurd cc

same_next : (m : State) (name : List ℕ) → slice_get m.items m.place ≡ Some (item_kind.Label name) → next_item m.items m.place ≡ next_item m.items (m.place + 1)
same_next m name e =
    let s : m.place + 1 ≡ suc m.place = omega arith in
    let k : skipped (drop (m.place + 1) m.items) ≡ skipped (drop (suc m.place) m.items) = ap (λ (p : ℕ). skipped (drop p m.items)) s in
    omega (arith, skips_label m.items m.place name e, k)

same_at : (m : State) (p q : ℕ) (o : Option Item32) → at_item o p m ≡ at_item o p (record m { place = q })
same_at m p q None = refl
same_at m p q (Some (item_kind.Label n)) = refl
same_at m p q (Some (item_kind.Instr i)) = refl

same_act : (m : State) (name : List ℕ) → slice_get m.items m.place ≡ Some (item_kind.Label name) → act m ≡ act (record m { place = m.place + 1 })
unfolding act
same_act m name e =
    ap (λ (p : ℕ). at_item (slice_get m.items p) p m) (same_next m name e)
    ∙ same_at m (next_item m.items (m.place + 1)) (m.place + 1) (slice_get m.items (next_item m.items (m.place + 1)))

same_step : (m n : State) (o : Option Stop32) → act m ≡ act n → next_where o m ≡ next_where o n
same_step m n None e = ap next_of e
same_step m n (Some x) e = refl

pub labels_are_passed : LabelsArePassed
labels_are_passed m name e = λ i n. by n i
  where
    by : (n : ℕ) → steps n m ≡ steps n (record m { place = m.place + 1 })
    by zero = refl
    by (suc n) = ap (λ (x : Next). one_first (behind x (steps n))) (same_step m (record m { place = m.place + 1 }) m.over (same_act m name e))
