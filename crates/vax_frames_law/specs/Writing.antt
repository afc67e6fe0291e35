-- The code of a function can be written.
use Rattle.std.specs.Prelude.{◌≡◌, ℕ, ◌≤◌, true, List}
use Rattle.std.specs.List.{list_all}
use Rattle.gg_base.specs.declared.limits.TheConstants.{NEED_LIMIT}
use Rattle.tree_core.specs.Names.{function_label}
use Rattle.vax_core.specs.declared.code.CodeItem.{CodeItem}
use Rattle.vax_core.specs.Valid.{is_name, is_code_item}
use Rattle.vax_frames.specs.Frames.{IsFrameCode}

-- where its body can be written and its label is a name, so can the code of a function with at most `NEED_LIMIT` words
abbrev pub FrameCodesAreValid : Type 0
FrameCodesAreValid =
    (name : List ℕ) (words : ℕ) (body code : List CodeItem) → is_name (function_label name) ≡ true → words ≤ NEED_LIMIT
    → list_all is_code_item body ≡ true
    → IsFrameCode name words body code → list_all is_code_item code ≡ true
