-- The code of a function can be written, where its body can.
use Rattle.std.proofs.Common.{◌≡◌, ℕ, ◌≤◌, true, leb, List, [], ◌∷◌, ◌++◌, refl}
use Rattle.std.specs.List.{list_all}
use Rattle.std.proofs.lemmas.Bool.{le-leb, and_from, and_parts}
use Rattle.tree_core.specs.Names.{function_label}
use Rattle.vax_core.specs.Valid.{is_name}
use Rattle.l32_core.specs.declared.code.Item32.{Item32}
use Rattle.l32_core.specs.declared.code.Item32.TheVariants as item_kind
use Rattle.l32_core.specs.Valid.{is_item}
use Rattle.l32_frames.specs.Frames.{enter, end_code, code_items}
use Rattle.l32_frames_law.specs.Writing.{FrameCodesAreValid}

all_append : (xs ys : List Item32) → list_all is_item xs ≡ true → list_all is_item ys ≡ true → list_all is_item (xs ++ ys) ≡ true
all_append [] ys h g = g
all_append (x ∷ xs) ys h g =
    let p = and_parts (is_item x) (list_all is_item xs) h in
    and_from (is_item x) (list_all is_item (xs ++ ys)) p.0 (all_append xs ys p.1 g)

enter_valid : (words : ℕ) → words ≤ 1024 → is_item (item_kind.Instr (enter words)) ≡ true
enter_valid words few = and_from (leb words 1024) true (le-leb words 1024 few) refl

pub frame_codes_are_valid : FrameCodesAreValid
frame_codes_are_valid name words body named few valid =
    and_from (is_name (function_label name)) _ named
    (and_from (is_item (item_kind.Instr (enter words))) _ (enter_valid words few) (all_append body (code_items end_code) valid refl))
