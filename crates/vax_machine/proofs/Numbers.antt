-- The numbers of an instruction's operands.
use Rattle.std.proofs.Common.{◌≡◌, ℕ, ◌≤◌, List, [], ◌∷◌, length, take, drop, refl, subst, sym, ap, ◌∙◌, arith, ◌<◌, ◌-◌}
use Rattle.std.specs.Prelude.{slice_get}
use Rattle.std.proofs.Math.Seq.{take-length}
use Rattle.vax_core.specs.declared.op.Op.{Op}
use Rattle.vax_core.specs.declared.op.OperandKind.{OperandKind}
use Rattle.vax_core.specs.declared.operand.Operand.{Operand}
use Rattle.vax_core.specs.declared.code.AreaItem.{AreaItem}
use Rattle.vax_core.specs.Ops.{shape}
use Rattle.vax_core.proofs.ShapeLaws.{few_operands}
use Rattle.vax_machine.specs.Tables.{operand_number, HasNumbers}

three : (layout : List AreaItem) (ks : List OperandKind) (os : List Operand) → length ks ≤ 3
    → HasNumbers layout ks os (operand_number layout (slice_get os 0) ∷ (operand_number layout (slice_get os 1) ∷ (operand_number layout (slice_get os 2) ∷ [])))
three layout [] os le = tt
three layout (a ∷ ks) [] le = tt
three layout (a ∷ []) (o ∷ os) le = (refl, tt)
three layout (a ∷ (b ∷ ks)) (o ∷ []) le = (refl, tt)
three layout (a ∷ (b ∷ [])) (o ∷ (p ∷ os)) le = (refl, (refl, tt))
three layout (a ∷ (b ∷ (c ∷ ks))) (o ∷ (p ∷ [])) le = (refl, (refl, tt))
three layout (a ∷ (b ∷ (c ∷ []))) (o ∷ (p ∷ (q ∷ os))) le = (refl, (refl, (refl, tt)))
three layout (a ∷ (b ∷ (c ∷ (d ∷ ks)))) (o ∷ (p ∷ (q ∷ os))) le = absurd (omega arith)

pub has_numbers : (layout : List AreaItem) (op : Op) (os : List Operand) (kinds : List OperandKind) (numbers : List ℕ) → kinds ≡ (shape op).operands
    → numbers ≡ operand_number layout (slice_get os 0) ∷ (operand_number layout (slice_get os 1) ∷ (operand_number layout (slice_get os 2) ∷ []))
    → HasNumbers layout kinds os numbers
has_numbers layout op os kinds numbers e h =
    subst (λ (ks : List OperandKind). HasNumbers layout ks os numbers) (sym e)
    (subst (λ (ns : List ℕ). HasNumbers layout (shape op).operands os ns) (sym h) (three layout (shape op).operands os (few_operands op)))

behind_first : {A : Type 0} (x : A) (xs : List A) → xs ≡ take (length (x ∷ xs) - 1) (drop 1 (x ∷ xs))
behind_first x xs = let e : length xs ≡ length (x ∷ xs) - 1 = omega arith in sym (take-length xs) ∙ ap (λ (n : ℕ). take n xs) e

-- the operands behind the first have the numbers behind the first
pub numbers_behind : (layout new : List AreaItem) (ks : List OperandKind) (os : List Operand) (ns : List ℕ) → 0 < length ks → 0 < length os → 0 < length ns → new ≡ layout → HasNumbers layout ks os ns
    → HasNumbers new (take (length ks - 1) (drop 1 ks)) (take (length os - 1) (drop 1 os)) (take (length ns - 1) (drop 1 ns))
numbers_behind layout new (x ∷ ks) (y ∷ os) (z ∷ ns) k o n e h =
    subst (λ (l : List OperandKind). HasNumbers new l (take (length (y ∷ os) - 1) (drop 1 (y ∷ os))) (take (length (z ∷ ns) - 1) (drop 1 (z ∷ ns)))) (behind_first x ks)
    (subst (λ (l : List Operand). HasNumbers new ks l (take (length (z ∷ ns) - 1) (drop 1 (z ∷ ns)))) (behind_first y os)
    (subst (λ (l : List ℕ). HasNumbers new ks os l) (behind_first z ns)
    (subst (λ (l : List AreaItem). HasNumbers l ks os ns) (sym e) h.1)))
numbers_behind layout new _ _ _ k o n e h = absurd (omega arith)
