-- The code of a function can be written, where its body can.
use Rattle.std.proofs.Common.{◌≡◌, ℕ, zero, suc, ◌*◌, ◌^◌, ◌≤◌, true, leb, ltb, List, [], ◌∷◌, ◌++◌, refl, ap, ◌∙◌, arith}
use Rattle.std.specs.List.{list_all}
use Rattle.std.proofs.lemmas.Bool.{le-leb, lt-ltb, and_from, and_parts}
use Rattle.tree_core.specs.Names.{function_label}
use Rattle.vax_core.specs.declared.code.CodeItem.{CodeItem}
use Rattle.vax_core.specs.Valid.{is_name, is_code_item}
use Rattle.vax_frames.specs.Frames.{room_code, end_code, code_items}
use Rattle.vax_frames_law.specs.Writing.{FrameCodesAreValid}

all_append : (xs ys : List CodeItem) → list_all is_code_item xs ≡ true → list_all is_code_item ys ≡ true → list_all is_code_item (xs ++ ys) ≡ true
all_append [] ys h g = g
all_append (x ∷ xs) ys h g =
    let p = and_parts (is_code_item x) (list_all is_code_item xs) h in
    and_from (is_code_item x) (list_all is_code_item (xs ++ ys)) p.0 (all_append xs ys p.1 g)

room_valid : (words : ℕ) → words ≤ 1024 → list_all is_code_item (code_items (room_code words)) ≡ true
room_valid zero few = refl
room_valid (suc n) few =
    let small : ltb (4 * suc n) (2 ^ 32) ≡ true = lt-ltb (4 * suc n) (2 ^ 32) (omega (arith, few)) in
    rw small refl

pub frame_codes_are_valid : FrameCodesAreValid
frame_codes_are_valid name words body code named few valid h =
    let label = function_label name in
    let mask : leb h.mask 4095 ≡ true = le-leb h.mask 4095 (omega (arith, h.small)) in
    let rest = all_append (code_items (room_code words)) _ (room_valid words few) (all_append body (code_items end_code) valid refl) in
    ap (λ (xs : List CodeItem). list_all is_code_item xs) h.code_is
    ∙ and_from (is_name label) _ named (and_from (is_name label) _ named (and_from (leb h.mask 4095) _ mask rest))
