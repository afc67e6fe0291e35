-- The code of a function can be written.
use Rattle.std.specs.Prelude.{◌≡◌, ℕ, ◌≤◌, true, List}
use Rattle.std.specs.List.{list_all}
use Rattle.gg_base.specs.declared.limits.TheConstants.{NEED_LIMIT}
use Rattle.tree_core.specs.Names.{function_label}
use Rattle.vax_core.specs.Valid.{is_name}
use Rattle.l32_core.specs.declared.code.Item32.{Item32}
use Rattle.l32_core.specs.Valid.{is_item}
use Rattle.l32_frames.specs.Frames.{function_items}

-- where its body can be written and its label is a name, so can the code of a function with at most `NEED_LIMIT` words
abbrev pub FrameCodesAreValid : Type 0
FrameCodesAreValid =
    (name : List ℕ) (words : ℕ) (body : List Item32) → is_name (function_label name) ≡ true → words ≤ NEED_LIMIT
    → list_all is_item body ≡ true → list_all is_item (function_items name words body) ≡ true
