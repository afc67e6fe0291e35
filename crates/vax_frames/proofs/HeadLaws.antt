-- A frame with words and one without.
use Rattle.std.proofs.Common.{◌≡◌, ℕ, zero, suc, ◌*◌, ◌^◌, ◌<◌, List, [], ◌∷◌, ◌++◌, refl, ap}
use Rattle.std.specs.Prelude.{◌≢◌}
use Rattle.tree_core.specs.Names.{function_label}
use Rattle.vax_core.specs.declared.register.Reg.TheVariants.{Sp}
use Rattle.vax_core.specs.declared.op.Op.TheVariants.{Subl2}
use Rattle.vax_core.specs.declared.code.CodeItem.{CodeItem}
use Rattle.vax_core.specs.declared.code.CodeItem.TheVariants as item_kind
use Rattle.vax_core.specs.First.{imm, in_reg}
use Rattle.vax_frames.specs.Frames.{instr, room_code, end_code, code_items, frame_head, IsMaskOf, IsFrameCode}

pub no_room : (words : ℕ) → words ≡ 0 → code_items (room_code words) ≡ []
no_room words e = ap (λ (w : ℕ). code_items (room_code w)) e

pub some_room : (words : ℕ) → words ≢ 0 → code_items (room_code words) ≡ item_kind.Instr (instr Subl2 (imm (4 * words) ∷ (in_reg Sp ∷ []))) ∷ []
some_room zero ne = absurd (ne refl)
some_room (suc n) ne = refl

pub is_frame : (name : List ℕ) (mask words : ℕ) (body : List CodeItem) → IsMaskOf mask body → mask < 2 ^ 12
    → IsFrameCode name words body (frame_head (function_label name) mask words ++ (body ++ code_items end_code))
is_frame name mask words body h lt = record { mask = mask; is_mask = h; small = lt; code_is = refl }
