-- The homes of a body are paired one to one, and its instructions are ready for them.
use Rattle.std.specs.Prelude.{◌≡◌, ◌⊎◌, ℕ, true, List, [], ◌∷◌}
use Rattle.std.specs.List.{AllByRecursion}
use Rattle.vax_confined.specs.vax_core.specs.declared.operand.Operand.{Operand}
use Rattle.vax_confined.specs.vax_core.specs.declared.code.Instr.{Instr}
use Rattle.vax_confined.specs.vax_core.specs.declared.code.CodeItem.{CodeItem}
use Rattle.vax_confined.specs.vax_core.specs.declared.code.CodeItem.TheVariants as item_kind
use Rattle.vax_confined.specs.vax_core.specs.Ops.{shape}
use Rattle.vax_confined.specs.vax_core.specs.Valid.{are_operands}
use Rattle.vax_homes.specs.Choosing.{homes_of}
use Rattle.vax_homes_law.specs.Alike.{IsPaired, FitsArguments, AllMayHome}

-- it is one of them
abbrev pub IsIn : {X : Type 0} → X → List X → Type 0
IsIn x [] = ⊥
IsIn x (y ∷ ys) = (x ≡ y) ⊎ IsIn x ys

-- no two are the same
abbrev pub Differ : {X : Type 0} → List X → Type 0
Differ [] = Unit {0}
Differ (x ∷ xs) = (IsIn x xs → ⊥) × Differ xs

-- What is said of the homes that a body has for wanted locals.
pub record AreFit (wanted : List ℕ) (body : List CodeItem) : Type 0 where
  pub paired : IsPaired (homes_of wanted body)
  -- each instruction of the body whose operands are valid and whose arguments are ones of the call
  pub ready : (args : ℕ) (i : Instr) → IsIn (item_kind.Instr i) body → are_operands (shape i.op).operands i.operands ≡ true
      → AllByRecursion (λ (o : Operand). FitsArguments args o.base) i.operands
      → AllMayHome (homes_of wanted body) args (shape i.op).operands i.operands

abbrev pub HomesAreFit : Type 0
HomesAreFit = (wanted : List ℕ) (body : List CodeItem) → Differ wanted → AreFit wanted body
