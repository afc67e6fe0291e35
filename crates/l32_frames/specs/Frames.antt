-- The code of a function: its frame round its body.
use Rattle.std.specs.Prelude.{ℕ, List, [], ◌∷◌, ◌++◌, map, None}
use Rattle.tree_core.specs.Names.{function_label}
use Rattle.l32_core.specs.declared.operand.Operand32.{Operand32}
use Rattle.l32_core.specs.declared.operand.Operand32.TheVariants as operands
use Rattle.l32_core.specs.declared.op.Op32.{Op32}
use Rattle.l32_core.specs.declared.op.Op32.TheVariants.{Li, Enter, Ret}
use Rattle.l32_core.specs.declared.code.Instr32.{Instr32}
use Rattle.l32_core.specs.declared.code.Item32.{Item32}
use Rattle.l32_core.specs.declared.code.Item32.TheVariants as item_kind

abbrev pub instr : Op32 → List Operand32 → Instr32
instr op os = record { op = op; operands = os; target = None }

-- `enter $n` makes room for the frame's longwords
abbrev pub enter : ℕ → Instr32
enter words = instr Enter (operands.Num words ∷ [])

-- `li a0,$0` and `ret`: where a body's end is reached, the function answers 0
abbrev pub end_code : List Instr32
end_code = instr Li (operands.Reg 0 ∷ (operands.Num 0 ∷ [])) ∷ (instr Ret [] ∷ [])

abbrev pub code_items : List Instr32 → List Item32
code_items is = map item_kind.Instr is

-- a body between a label with `enter` and the end
abbrev pub frame_items : List ℕ → ℕ → List Item32 → List Item32
frame_items label words body = item_kind.Label label ∷ (item_kind.Instr (enter words) ∷ (body ++ code_items end_code))

-- the code of a function of this name with this body and so many frame words
abbrev pub function_items : List ℕ → ℕ → List Item32 → List Item32
function_items name words body = frame_items (function_label name) words body
