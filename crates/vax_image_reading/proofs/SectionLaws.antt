-- Each text section is read.
use Rattle.std.proofs.Common.{◌≡◌, ℕ, zero, suc, ◌+◌, ◌%◌, ◌^◌, ◌<◌, ◌≤◌, Bool, false, ◌&&◌, List, [], ◌∷◌, ◌++◌, length, Option, Some, None, refl, sym, ap, subst, ◌∙◌, arith, append_assoc}
use Rattle.std.specs.List.{list_all}
use Rattle.std.proofs.lemmas.Bool.{and_parts, ne_eqb, eq-eqb, leb-true}
use Rattle.std.proofs.Math.Nat.{mod-eq_of_lt}
use Rattle.gg_base.specs.declared.size.Size.{Size}
use Rattle.gg_base.specs.declared.size.Size.TheVariants.{Word}
use Rattle.gg_base.proofs.Facts.{and_false, not_zero}
use Rattle.vax_core.specs.declared.code.CodeItem.{CodeItem}
use Rattle.vax_core.specs.declared.code.CodeItem.TheVariants as item_kind
use Rattle.vax_core.specs.Ops.{shape}
use Rattle.vax_core.specs.Valid.{is_code_item}
use Rattle.vax_image_format.specs.declared.field.Ref.{Ref}
use Rattle.vax_image_format.specs.declared.field.Sign.{Sign}
use Rattle.vax_image_format.specs.declared.field.Sign.TheVariants as signs
use Rattle.vax_image_format.specs.declared.field.Mark.{Mark}
use Rattle.vax_image_format.specs.Specifiers.{field}
use Rattle.vax_image_format.specs.Instructions.{operands_refs, head_bytes, target_ref, tail_bytes, target_size, item_length, item_refs}
use Rattle.vax_image_format.specs.Sections.{text_bytes, text_refs, text_marks}
use Rattle.vax_image_format.proofs.LengthLaws.{HasBytes, head_has, some_length}
use Rattle.vax_image_reading.specs.Fronts.{Front, front}
use Rattle.vax_image_reading.specs.Items.{is_empty, is_end, instr_item, signed_item, item_front, items_front}
use Rattle.vax_image_reading.specs.Taken.{AreLater, SectionsAreRead}
use Rattle.vax_image_reading.proofs.FieldLaws.{field_again}
use Rattle.vax_image_reading.proofs.InstrLaws.{operands_later, instr_again}

-- the marks of what stands behind a place are later, and so are the refs

abbrev MarksLater : ℕ → List Mark → Type 0
MarksLater p [] = Unit {0}
MarksLater p (m ∷ marks) = p ≤ m.place

marks_later : (p at : ℕ) (items : List CodeItem) (forms : List Size) → p ≤ at → MarksLater p (text_marks at items forms)
marks_later p at [] forms le = tt
marks_later p at (item ∷ items) [] le = tt
marks_later p at (item_kind.Label name ∷ items) (form ∷ forms) le = le
marks_later p at (item_kind.Globl name ∷ items) (form ∷ forms) le = le
marks_later p at (item_kind.Mask mask ∷ items) (form ∷ forms) le = le
marks_later p at (item_kind.Instr i ∷ items) (form ∷ forms) le = marks_later p (at + item_length form (item_kind.Instr i)) items forms (omega (arith, le))

target_later : (p at : ℕ) (target : Option (List ℕ)) (refs : List Ref) → p ≤ at → AreLater p refs → AreLater p (target_ref at target ++ refs)
target_later p at None refs le h = h
target_later p at (Some label) refs le h = le

refs_later : (p at : ℕ) (items : List CodeItem) (forms : List Size) → p ≤ at → AreLater p (text_refs at items forms)
refs_later p at [] forms le = tt
refs_later p at (item ∷ items) [] le = tt
refs_later p at (item_kind.Label name ∷ items) (form ∷ forms) le = refs_later p (at + 0) items forms (omega (arith, le))
refs_later p at (item_kind.Globl name ∷ items) (form ∷ forms) le = refs_later p (at + 0) items forms (omega (arith, le))
refs_later p at (item_kind.Mask mask ∷ items) (form ∷ forms) le = refs_later p (at + 2) items forms (omega (arith, le))
refs_later p at (item_kind.Instr i ∷ items) (form ∷ forms) le =
    let own = operands_refs (at + 1) (shape i.op).operands i.operands in
    let place = at + length (head_bytes form i) in
    let behind = text_refs (at + item_length form (item_kind.Instr i)) items forms in
    subst (AreLater p) (sym (append_assoc own (target_ref place i.target) behind))
    (operands_later p (at + 1) (shape i.op).operands i.operands (target_ref place i.target ++ behind) (omega (arith, le))
    (target_later p place i.target behind (omega (arith, le)) (refs_later p (at + item_length form (item_kind.Instr i)) items forms (omega (arith, le)))))

-- an instruction has a byte at least
some_bytes : (head more : List ℕ) → HasBytes head → is_empty (head ++ more) ≡ false
some_bytes head more h = ap (λ (b : List ℕ). is_empty (b ++ more)) h.is ∙ not_zero (length (h.tail ++ more))

-- no mark is due: an instruction
at_instr : (marks : List Mark) (f : Front) (later : ℕ) → MarksLater later marks → f.place < later → item_front marks f ≡ instr_item marks f
unfolding item_front
at_instr [] f later h lt = refl
at_instr (m ∷ marks) f later h lt = rw (ne_eqb m.place f.place (λ same. omega (arith, same, h, lt))) refl

-- a mark is due
at_mark : (sign : Sign) (marks : List Mark) (place : ℕ) (bytes : List ℕ) (refs : List Ref)
    → item_front (record { place = place; sign = sign } ∷ marks) (front place bytes refs) ≡ signed_item sign marks (front place bytes refs)
unfolding item_front
at_mark sign marks place bytes refs = rw (eq-eqb place place refl) refl

-- where a mark is left, the end is not there
not_end : (m : Mark) (marks : List Mark) (f : Front) → is_end (m ∷ marks) f ≡ false
not_end m marks f = ap (λ (b : Bool). b && is_empty f.bytes) (not_zero (length marks))

-- one item, and the others behind it
then : (n : ℕ) (marks more : List Mark) (f g : Front) (item : CodeItem) (items : List CodeItem) → is_end marks f ≡ false
    → item_front marks f ≡ Some (item, more, g) → items_front n more g ≡ Some items → items_front (suc n) marks f ≡ Some (item ∷ items)
then n marks more f g item items some first others = rw (some, first, others) refl

pub section_again : SectionsAreRead
section_again labels [] forms zero place valid l lt = absurd (omega (arith, lt))
section_again labels [] forms (suc n) place valid l lt = refl
section_again labels (item ∷ items) [] n place valid l lt = absurd (omega (arith, l))
section_again labels (item ∷ items) (form ∷ forms) zero place valid l lt = absurd (omega (arith, lt))
section_again labels (item_kind.Label name ∷ items) (form ∷ forms) (suc n) place valid l lt =
    let p = and_parts (is_code_item (item_kind.Label name)) (list_all is_code_item items) valid in
    let h = section_again labels items forms n (place + 0) p.1 (omega (arith, l)) (omega (arith, lt)) in
    let none : place ≡ place + 0 = omega arith in
    let marks = text_marks (place + 0) items forms in
    let bytes = text_bytes labels (place + 0) items forms in
    let refs = text_refs (place + 0) items forms in
    then n (text_marks place (item_kind.Label name ∷ items) (form ∷ forms)) marks (front place bytes refs) (front place bytes refs) (item_kind.Label name) items
    (not_end (record { place = place; sign = signs.Label name }) marks (front place bytes refs))
    (at_mark (signs.Label name) marks place bytes refs) (ap (λ (q : ℕ). items_front n marks (front q bytes refs)) none ∙ h)
section_again labels (item_kind.Globl name ∷ items) (form ∷ forms) (suc n) place valid l lt =
    let p = and_parts (is_code_item (item_kind.Globl name)) (list_all is_code_item items) valid in
    let h = section_again labels items forms n (place + 0) p.1 (omega (arith, l)) (omega (arith, lt)) in
    let none : place ≡ place + 0 = omega arith in
    let marks = text_marks (place + 0) items forms in
    let bytes = text_bytes labels (place + 0) items forms in
    let refs = text_refs (place + 0) items forms in
    then n (text_marks place (item_kind.Globl name ∷ items) (form ∷ forms)) marks (front place bytes refs) (front place bytes refs) (item_kind.Globl name) items
    (not_end (record { place = place; sign = signs.Globl name }) marks (front place bytes refs))
    (at_mark (signs.Globl name) marks place bytes refs) (ap (λ (q : ℕ). items_front n marks (front q bytes refs)) none ∙ h)
section_again labels (item_kind.Mask mask ∷ items) (form ∷ forms) (suc n) place valid l lt =
    let p = and_parts (is_code_item (item_kind.Mask mask)) (list_all is_code_item items) valid in
    let h = section_again labels items forms n (place + 2) p.1 (omega (arith, l)) (omega (arith, lt)) in
    let small : mask ≤ 4095 = leb-true mask 4095 p.0 in
    let whole : mask % 2 ^ 16 ≡ mask = mod-eq_of_lt (omega (arith, small)) in
    let marks = text_marks (place + 2) items forms in
    let bytes = text_bytes labels (place + 2) items forms in
    let refs = text_refs (place + 2) items forms in
    then n (text_marks place (item_kind.Mask mask ∷ items) (form ∷ forms)) marks (front place (field Word mask ++ bytes) refs) (front (place + 2) bytes refs) (item_kind.Mask mask) items
    (not_end (record { place = place; sign = signs.Mask }) marks (front place (field Word mask ++ bytes) refs))
    (at_mark signs.Mask marks place (field Word mask ++ bytes) refs ∙ rw (field_again Word mask place bytes refs (omega (arith, small)), whole) refl) h
section_again labels (item_kind.Instr i ∷ items) (form ∷ forms) (suc n) place valid l lt =
    let p = and_parts (is_code_item (item_kind.Instr i)) (list_all is_code_item items) valid in
    let at = place + item_length form (item_kind.Instr i) in
    let h = section_again labels items forms n at p.1 (omega (arith, l)) (omega (arith, lt)) in
    let marks = text_marks at items forms in
    let bytes = text_bytes labels at items forms in
    let refs = text_refs at items forms in
    let head = head_bytes form i in
    let tail = tail_bytes labels at (target_size form i) i.target in
    let f = front place ((head ++ tail) ++ bytes) (item_refs place form (item_kind.Instr i) ++ refs) in
    let some : is_empty ((head ++ tail) ++ bytes) ≡ false = ap is_empty (append_assoc head tail bytes) ∙ some_bytes head (tail ++ bytes) (head_has form i) in
    then n marks marks f (front at bytes refs) (item_kind.Instr i) items (ap (λ (b : Bool). is_empty marks && b) some ∙ and_false (is_empty marks))
    (at_instr marks f at (marks_later at at items forms (omega arith)) (omega (arith, some_length head (head_has form i)))
    ∙ rw (instr_again labels form i place bytes refs p.0 (refs_later at at items forms (omega arith))) refl) h
