-- The code of each image is read.
use Rattle.std.proofs.Common.{◌≡◌, ℕ, suc, ◌+◌, ◌^◌, ◌<◌, true, List, [], ◌∷◌, ◌++◌, length, Some, refl, sym, ap, ◌∙◌, arith, append_assoc}
use Rattle.std.specs.List.{list_all, flat_map}
use Rattle.std.proofs.lemmas.Bool.{and_parts}
use Rattle.std.proofs.lemmas.List.{append-nil, length-map}
use Rattle.gg_base.specs.declared.size.Size.{Size}
use Rattle.gg_base.specs.declared.size.Size.TheVariants.{Long}
use Rattle.vax_core.specs.declared.code.AreaItem.{AreaItem}
use Rattle.vax_core.specs.declared.code.Code.{Code}
use Rattle.vax_core.specs.Valid.{is_area_item, is_code_item, is_code}
use Rattle.vax_image_format.specs.Specifiers.{field}
use Rattle.vax_image_format.specs.Sections.{text_refs, text_marks, mark_bytes, ref_bytes, area_bytes}
use Rattle.vax_image_format.specs.Image.{label_at, piece_of, pieces_of, text_section, image_bytes, IsShort}
use Rattle.vax_image_reading.specs.Reading.{counted_front, mark_front, ref_front, area_front}
use Rattle.vax_image_reading.specs.Decoding.{text_front, read_loosely, ImagesAreRead}
use Rattle.vax_image_reading.proofs.SectionLaws.{section_again}
use Rattle.vax_image_format.proofs.FitLaws.{AllFit, IsFitMark, IsFitRef, marks_fit, AreWithin, text_within}
use Rattle.vax_image_reading.proofs.ReadingLaws.{number_again, bytes_again, mark_again, ref_again, area_again, counted_again}
use Rattle.vax_image_format.proofs.LengthLaws.{items_counted}

text_again : (text rest : List ℕ) → length text < 2 ^ 32 → text_front ((field Long (length text) ++ text) ++ rest) ≡ Some (text, rest)
text_again text rest lt =
    ap text_front (append_assoc (field Long (length text)) text rest) ∙ rw (number_again Long (length text) (text ++ rest) lt) (bytes_again text rest)

areas_fit : (area : List AreaItem) → list_all is_area_item area ≡ true → AllFit (λ (a : AreaItem). is_area_item a ≡ true) area
areas_fit [] h = tt
areas_fit (a ∷ area) h =
    let p = and_parts (is_area_item a) (list_all is_area_item area) h in
    (p.0, areas_fit area p.1)

-- an image with forms that are as many as its items
of_forms : (c : Code) (forms : List Size) → is_code c ≡ true → length forms ≡ length (pieces_of c.items) → IsShort c forms → read_loosely (image_bytes c forms) ≡ Some c
unfolding read_loosely
of_forms c forms valid many short =
    let p = and_parts (list_all is_area_item c.area) (list_all is_code_item c.items) valid in
    let labels = label_at c.items forms in
    let text = text_section c.items forms in
    let marks = text_marks 0 c.items forms in
    let refs = text_refs 0 c.items forms in
    let same : length forms ≡ length c.items = many ∙ length-map c.items (piece_of c.items) in
    let last = field Long (length c.area) ++ flat_map area_bytes c.area in
    let third = (field Long (length refs) ++ flat_map ref_bytes refs) ++ last in
    let second = (field Long (length marks) ++ flat_map mark_bytes marks) ++ third in
    let within : AreWithin (2 ^ 32) 0 (length text) refs = text_within labels (2 ^ 32) 0 c.items forms p.1 (omega (arith, short.text)) in
    let read_text = text_again text second (omega (arith, short.text)) in
    let read_marks = counted_again mark_front mark_bytes (IsFitMark (2 ^ 32)) mark_again marks third
    (marks_fit labels (2 ^ 32) 0 c.items forms (omega (arith, short.text))) (omega (arith, short.marks)) in
    let read_refs = counted_again ref_front ref_bytes (IsFitRef (2 ^ 32)) ref_again refs last within.fit (omega (arith, within.few, short.text)) in
    let read_area = counted_again area_front area_bytes (λ (a : AreaItem). is_area_item a ≡ true) area_again c.area [] (areas_fit c.area p.0) (omega (arith, short.area)) in
    let bare : last ++ [] ≡ last = append-nil last in
    let items = section_again labels c.items forms (suc (length marks + length text)) 0 p.1 same (omega (arith, items_counted labels 0 c.items forms same)) in
    rw (read_text, read_marks, read_refs, ap (λ (b : List ℕ). counted_front area_front b) (sym bare) ∙ read_area, items) refl

pub image_again : ImagesAreRead
image_again c bytes h = ap read_loosely h.spelled ∙ of_forms c h.forms h.valid h.least.fits.forms h.short
