-- The numbers of an instruction's operands.
use Rattle.std.proofs.Common.{◌≡◌, ℕ, zero, suc, ◌≤◌, ◌<◌, List, [], ◌∷◌, length, get_or, refl, subst, sym, arith}
use Rattle.std.specs.Prelude.{slice_get}
use Rattle.vax_core.specs.declared.code.AreaItem.{AreaItem}
use Rattle.l32_core.specs.declared.op.Op32.{Op32}
use Rattle.l32_core.specs.declared.op.Part.{Part}
use Rattle.l32_core.specs.declared.op.Part.TheVariants.{Operand, Label}
use Rattle.l32_core.specs.declared.operand.Operand32.{Operand32}
use Rattle.l32_core.specs.Ops.{shape}
use Rattle.l32_core.proofs.ShapeLaws.{few_parts}
use Rattle.l32_machine.specs.Tables.{operand_number, HasNumbers}

-- each number is that of the operand in its place
abbrev AreNumbers : List AreaItem → List Operand32 → List ℕ → Type 0
AreNumbers layout os ns = (i : ℕ) → i < length ns → get_or ns i 0 ≡ operand_number layout (slice_get os i)

enough : (layout : List AreaItem) (ps : List Part) (os : List Operand32) (ns : List ℕ) → length ps ≤ length ns → AreNumbers layout os ns → HasNumbers layout ps os ns
enough layout [] os ns le h = tt
enough layout (Label ∷ ps) os ns le h = enough layout ps os ns (omega (arith, le)) h
enough layout (Operand role ∷ ps) [] ns le h = tt
enough layout (Operand role ∷ ps) (o ∷ os) [] le h = absurd (omega (arith, le))
enough layout (Operand role ∷ ps) (o ∷ os) (n ∷ ns) le h = (h 0 (omega arith), enough layout ps os ns (omega (arith, le)) (λ i lt. h (suc i) (omega (arith, lt))))

three_are : (layout : List AreaItem) (os : List Operand32)
    → AreNumbers layout os (operand_number layout (slice_get os 0) ∷ (operand_number layout (slice_get os 1) ∷ (operand_number layout (slice_get os 2) ∷ [])))
three_are layout os zero lt = refl
three_are layout os (suc zero) lt = refl
three_are layout os (suc (suc zero)) lt = refl
three_are layout os (suc (suc (suc i))) lt = absurd (omega (arith, lt))

pub has_numbers : (layout : List AreaItem) (op : Op32) (os : List Operand32) (parts : List Part) (numbers : List ℕ) → parts ≡ (shape op).parts
    → numbers ≡ operand_number layout (slice_get os 0) ∷ (operand_number layout (slice_get os 1) ∷ (operand_number layout (slice_get os 2) ∷ []))
    → HasNumbers layout parts os numbers
has_numbers layout op os parts numbers e h =
    subst (λ (ps : List Part). HasNumbers layout ps os numbers) (sym e)
    (subst (λ (ns : List ℕ). HasNumbers layout (shape op).parts os ns) (sym h)
    (enough layout (shape op).parts os _ (few_parts op) (three_are layout os)))
