-- The code of a function: its frame round its body.
use Rattle.std.specs.Prelude.{◌≡◌, ℕ, zero, suc, ◌*◌, ◌^◌, ◌<◌, Bool, false, ◌&&◌, nat_lt, nat_le, List, [], ◌∷◌}
use Rattle.std.specs.Prelude.{◌++◌, map, None}
use Rattle.std.specs.List.{list_any}
use Rattle.tree_core.specs.Names.{function_label}
use Rattle.vax_core.specs.declared.register.Reg.TheVariants.{R0, Sp}
use Rattle.vax_core.specs.declared.operand.Base.TheVariants as bases
use Rattle.vax_core.specs.declared.operand.Operand.{Operand}
use Rattle.vax_core.specs.declared.op.Op.{Op}
use Rattle.vax_core.specs.declared.op.Op.TheVariants.{Subl2, Clrl, Ret}
use Rattle.vax_core.specs.declared.code.Instr.{Instr}
use Rattle.vax_core.specs.declared.code.CodeItem.{CodeItem}
use Rattle.vax_core.specs.declared.code.CodeItem.TheVariants as item_kind
use Rattle.vax_core.specs.Registers.{operands_name, IsSetOf}
use Rattle.vax_core.specs.First.{imm, in_reg}

abbrev pub instr : Op → List Operand → Instr
instr op os = record { op = op; operands = os; target = None }

-- `subl2 $n,sp` makes room for the frame's words, if it has any
abbrev pub room_code : ℕ → List Instr
room_code zero = []
room_code (suc n) = instr Subl2 (imm (4 * suc n) ∷ (in_reg Sp ∷ [])) ∷ []

-- `clrl r0` and `ret`: where a body's end is reached, the function answers 0
abbrev pub end_code : List Instr
end_code = instr Clrl (in_reg R0 ∷ []) ∷ (instr Ret [] ∷ [])

abbrev pub code_items : List Instr → List CodeItem
code_items is = map item_kind.Instr is

-- what stands before the body, and the whole
abbrev pub frame_head : List ℕ → ℕ → ℕ → List CodeItem
frame_head label mask words = item_kind.Globl label ∷ (item_kind.Label label ∷ (item_kind.Mask mask ∷ code_items (room_code words)))

abbrev pub frame_items : List ℕ → ℕ → ℕ → List CodeItem → List CodeItem
frame_items label mask words body =
    item_kind.Globl label ∷ (item_kind.Label label ∷ (item_kind.Mask mask ∷
    (code_items (room_code words) ++ (body ++ code_items end_code))))

-- the registers among r0 to r11 that the instructions of a body name
abbrev pub item_names : CodeItem → ℕ → Bool
item_names (item_kind.Label name) r = false
item_names (item_kind.Globl name) r = false
item_names (item_kind.Mask mask) r = false
item_names (item_kind.Instr i) r = operands_name i.operands r

abbrev pub body_names : List CodeItem → ℕ → Bool
body_names body r = list_any (λ (x : CodeItem). item_names x r) body

-- a function keeps r2 to r11 for its caller
abbrev pub is_kept : ℕ → Bool
is_kept r = nat_le 2 r && nat_lt r 12

-- the mask has exactly the kept registers that the body names
abbrev pub IsMaskOf : ℕ → List CodeItem → Type 0
IsMaskOf mask body = IsSetOf mask (λ r. is_kept r && body_names body r)

-- the code of a function of this name with this body and so many frame words
pub record IsFrameCode (name : List ℕ) (words : ℕ) (body code : List CodeItem) : Type 0 where
  pub mask : ℕ
  pub is_mask : IsMaskOf mask body
  pub small : mask < 2 ^ 12
  pub code_is : code ≡ frame_items (function_label name) mask words body
