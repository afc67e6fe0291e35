-- What is written of a code is its image; and where it is too large, it has none.
use Rattle.std.proofs.Common.{◌≡◌, ℕ, ◌+◌, ◌<◌, ◌≤◌, ◌^◌, true, cond, List, [], ◌∷◌, ◌++◌, length, get_or, Result, refl, sym, ap, subst, ◌∙◌, arith}
use Rattle.std.specs.Prelude.{slice_index, count_by, codes}
use Rattle.std.specs.Global.{Vec}
use Rattle.std.specs.List.{list_all, flat_map}
use Rattle.std.proofs.lemmas.Bool.{and_parts}
use Rattle.std.proofs.lemmas.List.{length-map}
use Rattle.std.proofs.lemmas.List.Sums.{sum_by-cons}
use Rattle.gg_base.specs.declared.size.Size.{Size}
use Rattle.gg_base.proofs.Facts.{index_of}
use Rattle.vax_core.specs.declared.code.AreaItem.{AreaItem}
use Rattle.vax_core.specs.declared.code.CodeItem.{CodeItem}
use Rattle.vax_core.specs.declared.code.CodeItem.TheVariants as item_kind
use Rattle.vax_core.specs.declared.code.Code.{Code}
use Rattle.vax_core.specs.Valid.{is_area_item, is_code_item, is_code}
use Rattle.vax_machine.specs.Loading.{Loads}
use Rattle.vax_image_branches.specs.declared.piece.Piece.{Piece}
use Rattle.vax_image_branches.specs.Branches.{place}
use Rattle.vax_image_branches.specs.Least.{ArePieces, IsLeast}
use Rattle.vax_image_branches.specs.Rounds.{ArePlaces}
use Rattle.vax_image_branches.proofs.Growth.{least_is_one}
use Rattle.vax_image_format.specs.declared.field.Ref.{Ref}
use Rattle.vax_image_format.specs.Instructions.{item_length}
use Rattle.vax_image_format.specs.Sections.{text_refs, text_marks, mark_bytes, ref_bytes, area_bytes}
use Rattle.vax_image_format.specs.Image.{label_at, piece_of, pieces_of, text_section, counted, image_bytes, IsImage}
use Rattle.vax_image_format.proofs.LengthLaws.{items_counted}
use Rattle.vax_image_format.proofs.FitLaws.{AreWithin, text_within}
use Rattle.vax_image_format.proofs.PlaceLaws.{sections_end, pieces_serve}
use Rattle.vax_image_writing.specs.declared.items.Text.{Text}
use Rattle.vax_image_writing.specs.Laid.{IsLaid}
use Rattle.vax_image_writing.specs.Texts.{is_marked, IsText, AreNamed, image_of}
use Rattle.vax_image_writing.proofs.AreaLaws.{refs_named}
use Rattle.vax_image.specs.declared.fault.ImageFault.{ImageFault}
use Rattle.vax_image.specs.Answers.{code_with, IsTooLarge, Encoded}

-- the parts of a code are the code
code_so : (c : Code) (area : List AreaItem) (items : List CodeItem) → area ≡ c.area → items ≡ c.items → code_with area items ≡ c
code_so c area items e f = λ i. record { area = e i; items = f i }

pub with_valid : (c : Code) (area : List AreaItem) (items : List CodeItem) → area ≡ c.area → items ≡ c.items → is_code c ≡ true → is_code (code_with area items) ≡ true
with_valid c area items e f h = subst (λ (x : Code). is_code x ≡ true) (sym (code_so c area items e f)) h

pub with_loads : (c : Code) (area : List AreaItem) (items : List CodeItem) → area ≡ c.area → items ≡ c.items → Loads c → Loads (code_with area items)
with_loads c area items e f h = subst Loads (sym (code_so c area items e f)) h

pub with_encoded : (c : Code) (area : List AreaItem) (items : List CodeItem) (r : Result (Vec ℕ) ImageFault) → area ≡ c.area → items ≡ c.items → Encoded (code_with area items) r → Encoded c r
with_encoded c area items r e f h = subst (λ (x : Code). Encoded x r) (code_so c area items e f) h

pub items_valid : (area : List AreaItem) (items : List CodeItem) → is_code (code_with area items) ≡ true → list_all is_code_item items ≡ true
items_valid area items h = (and_parts (list_all is_area_item area) (list_all is_code_item items) h).1

pub area_valid : (area : List AreaItem) (items : List CodeItem) → is_code (code_with area items) ≡ true → list_all is_area_item area ≡ true
area_valid area items h = (and_parts (list_all is_area_item area) (list_all is_code_item items) h).0

pub serves : (area : List AreaItem) (items : List CodeItem) (ps : List Piece) → is_code (code_with area items) ≡ true → length items ≤ 2 ^ 33 → ps ≡ pieces_of items → ArePieces ps
serves area items ps valid few is = subst ArePieces (sym is) (pieces_serve items (items_valid area items valid) few)

pub as_many : (items : List CodeItem) (ps : List Piece) → ps ≡ pieces_of items → length ps ≡ length items
as_many items ps is = ap length is ∙ length-map items (piece_of items)

pub forms_many : (items : List CodeItem) (forms : List Size) → IsLeast (pieces_of items) forms → length forms ≡ length items
forms_many items forms h = h.fits.forms ∙ length-map items (piece_of items)

-- the section's end is the last place
end_is : (ps : List Piece) (forms : List Size) (places : List ℕ) → ArePlaces ps forms (length ps) places → slice_index places (length ps) ≡ place ps forms (length ps)
end_is ps forms places h = index_of places (length ps) (place ps forms (length ps)) 0 (h.each (length ps) (omega arith))

-- it is what code reads there
pub read_end : (ps : List Piece) (forms : List Size) (places : List ℕ) (n x : ℕ) → ArePlaces ps forms (length ps) places → n ≡ length ps → x ≡ get_or places n x
    → x ≡ slice_index places (length ps)
read_end ps forms places n x h is e =
    e
    ∙ ap (λ (k : ℕ). get_or places k x) is
    ∙ index_of places (length ps) (place ps forms (length ps)) x (h.each (length ps) (omega arith))
    ∙ sym (end_is ps forms places h)

pub are_laid : (items : List CodeItem) (ps : List Piece) (forms : List Size) (places : List ℕ) → ps ≡ pieces_of items → IsLeast ps forms → ArePlaces ps forms (length ps) places
    → slice_index places (length ps) ≤ 1073741823 → IsLaid items forms places
are_laid items ps forms places is least h le =
    let many = as_many items ps is in
    record {
      many = least.fits.forms ∙ many;
      placed = subst (λ (qs : List Piece). ArePlaces qs forms (length items) places) is (subst (λ (n : ℕ). ArePlaces ps forms n places) many h);
      short = let e : place (pieces_of items) forms (length items) ≡ slice_index places (length ps) =
          ap (λ (n : ℕ). place (pieces_of items) forms n) (sym many) ∙ ap (λ (qs : List Piece). place qs forms (length ps)) (sym is) ∙ sym (end_is ps forms places h) in
          omega (arith, e, le);
    }

-- the marks are those of the items that have one
one_on : (item : CodeItem) (items : List CodeItem) → count_by is_marked (item ∷ items) ≡ cond (is_marked item) 1 0 + count_by is_marked items
one_on item items = sum_by-cons (λ (x : CodeItem). cond (is_marked x) 1 0) item items

pub marks_counted : (at : ℕ) (items : List CodeItem) (forms : List Size) → length forms ≡ length items → length (text_marks at items forms) ≡ count_by is_marked items
marks_counted at [] forms e = refl
marks_counted at (item ∷ items) [] e = absurd (omega (arith, e))
marks_counted at (item_kind.Label name ∷ items) (form ∷ forms) e =
    omega (arith, one_on (item_kind.Label name) items, marks_counted (at + 0) items forms (omega (arith, e)))
marks_counted at (item_kind.Globl name ∷ items) (form ∷ forms) e =
    omega (arith, one_on (item_kind.Globl name) items, marks_counted (at + 0) items forms (omega (arith, e)))
marks_counted at (item_kind.Mask mask ∷ items) (form ∷ forms) e =
    omega (arith, one_on (item_kind.Mask mask) items, marks_counted (at + 2) items forms (omega (arith, e)))
marks_counted at (item_kind.Instr i ∷ items) (form ∷ forms) e =
    omega (arith, one_on (item_kind.Instr i) items, marks_counted (at + item_length form (item_kind.Instr i)) items forms (omega (arith, e)))

-- what is too large has no image

pub many_items : (c : Code) (items : List CodeItem) → items ≡ c.items → 8589934592 < length items → IsTooLarge c
many_items c items e lt forms least short =
    omega (arith, ap length e, items_counted (label_at c.items forms) 0 c.items forms (forms_many c.items forms least), short.text, short.marks, lt)

pub many_marks : (c : Code) (items : List CodeItem) (marks : ℕ) → items ≡ c.items → marks ≡ count_by is_marked items → 4294967295 < marks → IsTooLarge c
many_marks c items marks e is lt forms least short =
    omega (arith, is, ap (count_by is_marked) e, marks_counted 0 c.items forms (forms_many c.items forms least), short.marks, lt)

pub large_area : (c : Code) (area : List AreaItem) → area ≡ c.area → 4294967295 < length area → IsTooLarge c
large_area c area e lt forms least short = omega (arith, ap length e, short.area, lt)

pub too_long_text : (area : List AreaItem) (items : List CodeItem) (ps : List Piece) (forms : List Size) (places : List ℕ) → is_code (code_with area items) ≡ true → ps ≡ pieces_of items
    → IsLeast ps forms → ArePlaces ps forms (length ps) places → 1073741823 < slice_index places (length ps) → IsTooLarge (code_with area items)
too_long_text area items ps forms places valid is least h lt others others_least short =
    let mine : IsLeast (pieces_of items) forms = subst (λ (qs : List Piece). IsLeast qs forms) is least in
    let same : others ≡ forms = least_is_one (pieces_of items) others forms others_least mine in
    let text : length (text_section items others) ≤ 1073741823 = short.text in
    let here : length (text_section items forms) ≤ 1073741823 = subst (λ (fs : List Size). length (text_section items fs) ≤ 1073741823) same text in
    let end = sections_end items forms (items_valid area items valid) (forms_many items forms mine) in
    let there : place (pieces_of items) forms (length items) ≡ slice_index places (length ps) =
    ap (λ (n : ℕ). place (pieces_of items) forms n) (sym (as_many items ps is)) ∙ ap (λ (qs : List Piece). place qs forms (length ps)) (sym is) ∙ sym (end_is ps forms places h) in
    omega (arith, here, end, there, lt)

-- what is written is short, and its refs are few and well named

text_short : (items : List CodeItem) (forms : List Size) (places : List ℕ) → list_all is_code_item items ≡ true → IsLaid items forms places → length (text_section items forms) ≤ 1073741823
text_short items forms places valid h = omega (arith, sections_end items forms valid h.many, h.short)

pub bytes_short : (items : List CodeItem) (forms : List Size) (places : List ℕ) (t : Text) → list_all is_code_item items ≡ true → IsLaid items forms places → IsText items forms t
    → length t.section.bytes.items < 2 ^ 32
bytes_short items forms places t valid h text = omega (arith, ap length text.bytes, text_short items forms places valid h)

within : (items : List CodeItem) (forms : List Size) (places : List ℕ) → list_all is_code_item items ≡ true → IsLaid items forms places
    → AreWithin (2 ^ 32) 0 (length (text_section items forms)) (text_refs 0 items forms)
within items forms places valid h = text_within (label_at items forms) (2 ^ 32) 0 items forms valid (omega (arith, text_short items forms places valid h))

pub refs_few : (items : List CodeItem) (forms : List Size) (places : List ℕ) (t : Text) → list_all is_code_item items ≡ true → IsLaid items forms places → IsText items forms t
    → length t.section.refs.items < 2 ^ 32
refs_few items forms places t valid h text = omega (arith, ap length text.refs, (within items forms places valid h).few, text_short items forms places valid h)

pub refs_short : (items : List CodeItem) (forms : List Size) (places : List ℕ) (t : Text) → list_all is_code_item items ≡ true → IsLaid items forms places → IsText items forms t
    → AreNamed t.section.refs.items
refs_short items forms places t valid h text = subst AreNamed (sym text.refs) (refs_named (2 ^ 32) (text_refs 0 items forms) (within items forms places valid h).fit)

image_is : (area : List AreaItem) (items : List CodeItem) (forms : List Size) (t : Text) (marks : ℕ) → IsText items forms t → marks ≡ length (text_marks 0 items forms)
    → image_of t marks area ≡ image_bytes (code_with area items) forms
image_is area items forms t marks text is =
    let last = counted (length area) (flat_map area_bytes area) in
    let refs = counted (length t.section.refs.items) (flat_map ref_bytes t.section.refs.items) ++ last in
    ap (λ (x : List ℕ). codes "GGI1" ++ (counted (length x) x ++ (counted marks t.marks.items ++ refs))) text.bytes
    ∙ ap (λ (x : List ℕ). codes "GGI1" ++ (counted (length (text_section items forms)) (text_section items forms) ++ (counted marks x ++ refs))) text.marks
    ∙ ap (λ (n : ℕ). codes "GGI1" ++ (counted (length (text_section items forms)) (text_section items forms) ++ (counted n (flat_map mark_bytes (text_marks 0 items forms)) ++ refs))) is
    ∙ ap (λ (x : List Ref). codes "GGI1" ++ (counted (length (text_section items forms)) (text_section items forms)
    ++ (counted (length (text_marks 0 items forms)) (flat_map mark_bytes (text_marks 0 items forms)) ++ (counted (length x) (flat_map ref_bytes x) ++ last)))) text.refs

pub encoded : (area : List AreaItem) (items : List CodeItem) (ps : List Piece) (forms : List Size) (places : List ℕ) (t : Text) (marks : ℕ) (bytes : List ℕ) → is_code (code_with area items) ≡ true
    → Loads (code_with area items) → marks ≡ count_by is_marked items → marks < 2 ^ 32 → length area ≤ 4294967295 → ps ≡ pieces_of items → IsLeast ps forms → IsLaid items forms places
    → IsText items forms t → bytes ≡ image_of t marks area → IsImage (code_with area items) bytes
encoded area items ps forms places t marks bytes valid loads count small few is least h text spelled =
    let same : marks ≡ length (text_marks 0 items forms) = count ∙ sym (marks_counted 0 items forms h.many) in
    record {
      valid = valid;
      loads = loads;
      forms = forms;
      least = subst (λ (qs : List Piece). IsLeast qs forms) is least;
      short = record { text = text_short items forms places (items_valid area items valid) h; marks = omega (arith, same, small); area = few };
      spelled = spelled ∙ image_is area items forms t marks text same;
    }

pub ruleset linked_facts = (with_valid, with_loads, with_encoded, many_items, many_marks, large_area)

pub ruleset writing_facts = (items_valid, area_valid, serves, as_many, are_laid, too_long_text, bytes_short, refs_few, refs_short, encoded)
