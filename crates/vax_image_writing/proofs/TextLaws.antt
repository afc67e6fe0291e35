-- The items of a text section are written one after the other.
use Rattle.std.proofs.Common.{◌≡◌, ℕ, zero, suc, ◌+◌, ◌-◌, ◌<◌, ◌≤◌, ◌^◌, true, false, cond, List, [], ◌∷◌, ◌++◌, length, take, drop, get_or}
use Rattle.std.proofs.Common.{Bool, Option, Some, None, refl, sym, ap, subst, ◌∙◌, arith, append_assoc, length-append}
use Rattle.std.specs.Prelude.{slice_index}
use Rattle.std.specs.List.{list_all, flat_map}
use Rattle.std.proofs.lemmas.Bool.{and_parts}
use Rattle.std.proofs.lemmas.List.{append-nil, take_rest}
use Rattle.gg_base.specs.declared.size.Size.{Size}
use Rattle.gg_base.specs.declared.size.Size.TheVariants.{Byte, Long}
use Rattle.gg_base.proofs.Facts.{index_of}
use Rattle.vax_core.specs.declared.code.Instr.{Instr}
use Rattle.vax_core.specs.declared.code.CodeItem.{CodeItem}
use Rattle.vax_core.specs.declared.code.CodeItem.TheVariants as item_kind
use Rattle.vax_core.specs.Valid.{is_code_item}
use Rattle.vax_machine.specs.Labels.{has_label, label_place}
use Rattle.vax_image_branches.specs.Branches.{place}
use Rattle.vax_image_branches.specs.declared.piece.Piece.{Piece}
use Rattle.vax_image_format.specs.declared.field.Ref.{Ref}
use Rattle.vax_image_format.specs.declared.field.Mark.{Mark}
use Rattle.vax_image_format.specs.Specifiers.{field}
use Rattle.vax_image_format.specs.Instructions.{item_length, item_bytes, item_refs}
use Rattle.vax_image_format.specs.Sections.{text_bytes, text_refs, item_marks, text_marks, mark_bytes}
use Rattle.vax_image_format.specs.Image.{pieces_of, label_at}
use Rattle.vax_image_format.proofs.LengthLaws.{item_is_long}
use Rattle.vax_image_format.proofs.PlaceLaws.{label_within, sections_end}
use Rattle.vax_image_names.specs.Stands.{place_of}
use Rattle.vax_image_writing.specs.declared.section.Section.{Section}
use Rattle.vax_image_writing.specs.declared.items.Text.{Text}
use Rattle.vax_image_writing.specs.Written.{IsPut, end_of, IsItemPut}
use Rattle.vax_image_writing.specs.Laid.{IsLaid}
use Rattle.vax_image_writing.specs.Texts.{target_of, target_place, IsText}

-- the place of an item, and of a target

rises : (ps : List Piece) (fs : List Size) (i j : ℕ) → i ≤ j → place ps fs i ≤ place ps fs j
rises ps fs zero j le = omega arith
rises ps fs (suc i) zero le = absurd (omega (arith, le))
rises [] fs (suc i) (suc j) le = omega arith
rises (p ∷ ps) [] (suc i) (suc j) le = omega arith
rises (p ∷ ps) (f ∷ fs) (suc i) (suc j) le = omega (arith, rises ps fs i j (omega (arith, le)))

pub laid_at : (items : List CodeItem) (forms : List Size) (places : List ℕ) (n : ℕ) → IsLaid items forms places → n ≤ length items
    → (slice_index places n ≡ place (pieces_of items) forms n) × (slice_index places n < 2 ^ 32)
laid_at items forms places n h le =
    let is = index_of places n (place (pieces_of items) forms n) 0 (h.placed.each n le) in
    (is, omega (arith, is, rises (pieces_of items) forms n (length items) le, h.short))

pub place_small : (items : List CodeItem) (forms : List Size) (places : List ℕ) (n : ℕ) → IsLaid items forms places → n ≤ length items → slice_index places n < 2 ^ 32
place_small items forms places n h le = (laid_at items forms places n h le).1

placed_by : (items : List CodeItem) (forms : List Size) (label : List ℕ) (b : Bool) (n : ℕ) → has_label items label ≡ b → cond b (Some (label_place items label)) None ≡ Some n
    → label_at items forms label ≡ Some (place (pieces_of items) forms n)
placed_by items forms label true n e h =
    let is : label_place items label ≡ n = cc in
    rw e (ap (λ (k : ℕ). Some (place (pieces_of items) forms k)) is)
placed_by items forms label false n e h = absurd (cc)

-- the number of a label that is there
pub label_inside : (items : List CodeItem) (label : List ℕ) (n : ℕ) → place_of items label ≡ Some n → n ≤ length items
label_inside items label n h = by (has_label items label) h
  where
    by : (b : Bool) → cond b (Some (label_place items label)) None ≡ Some n → n ≤ length items
    by true e = let is : label_place items label ≡ n = cc in omega (arith, is, label_within items label)
    by false e = absurd (cc)

pub target_found : (items : List CodeItem) (forms : List Size) (places : List ℕ) (label : List ℕ) (n : ℕ) → IsLaid items forms places → place_of items label ≡ Some n
    → Some (slice_index places n) ≡ target_place (label_at items forms) (Some label)
target_found items forms places label n h e =
    ap Some (laid_at items forms places n h (label_inside items label n e)).0 ∙ sym (placed_by items forms label (has_label items label) n refl e)

pub target_missing : (items : List CodeItem) (forms : List Size) (label : List ℕ) → place_of items label ≡ None → ◌≡◌ {A = Option ℕ} None (target_place (label_at items forms) (Some label))
target_missing items forms label e = by (has_label items label) refl e
  where
    by : (b : Bool) → has_label items label ≡ b → cond b (Some (label_place items label)) None ≡ None → ◌≡◌ {A = Option ℕ} None (label_at items forms label)
    by true d h = absurd (cc)
    by false d h = rw d refl

-- one item: its target's place may be told in place of all labels'

item_by : (labels : List ℕ → Option ℕ) (at : ℕ) (form : Size) (item : CodeItem) → item_bytes (λ label. target_place labels (target_of item)) at form item ≡ item_bytes labels at form item
item_by labels at form (item_kind.Label name) = refl
item_by labels at form (item_kind.Globl name) = refl
item_by labels at form (item_kind.Mask mask) = refl
item_by labels at form (item_kind.Instr i) = by i.target refl
  where
    by : (t : Option (List ℕ)) → i.target ≡ t → item_bytes (λ label. target_place labels i.target) at form (item_kind.Instr i) ≡ item_bytes labels at form (item_kind.Instr i)
    by None e = rw e refl
    by (Some label) e = rw e refl

-- what was written and what is left to write are the whole
pub record Leaves (labels : List ℕ → Option ℕ) (items : List CodeItem) (forms : List Size) (t : Text) (left : List CodeItem) (rest : List Size) : Type 0 where
  pub bytes : t.section.bytes.items ++ text_bytes labels (end_of t.section) left rest ≡ text_bytes labels 0 items forms
  pub refs : t.section.refs.items ++ text_refs (end_of t.section) left rest ≡ text_refs 0 items forms
  pub marks : t.marks.items ++ flat_map mark_bytes (text_marks (end_of t.section) left rest) ≡ flat_map mark_bytes (text_marks 0 items forms)
  pub valid : list_all is_code_item left ≡ true
  pub many : length rest ≡ length left

flat_append : (xs ys : List Mark) → flat_map mark_bytes (xs ++ ys) ≡ flat_map mark_bytes xs ++ flat_map mark_bytes ys
flat_append [] ys = refl
flat_append (x ∷ xs) ys = ap (λ (t : List ℕ). mark_bytes x ++ t) (flat_append xs ys) ∙ sym (append_assoc (mark_bytes x) (flat_map mark_bytes xs) (flat_map mark_bytes ys))

pub leaves_step : (labels : List ℕ → Option ℕ) (items : List CodeItem) (forms : List Size) (a b : Text) (left : List CodeItem) (rest : List Size) (item : CodeItem) (form : Size) (to : Option ℕ)
    → Leaves labels items forms a (item ∷ left) (form ∷ rest) → to ≡ target_place labels (target_of item) → IsItemPut a b form to item → Leaves labels items forms b left rest
leaves_step labels items forms a b left rest item form to h is put =
    let at = end_of a.section in
    let one = item_bytes labels at form item in
    let same : item_bytes (λ label. to) at form item ≡ one = ap (λ (t : Option ℕ). item_bytes (λ label. t) at form item) is ∙ item_by labels at form item in
    let text : b.section.bytes.items ≡ a.section.bytes.items ++ one = put.section.bytes_are ∙ ap (λ (t : List ℕ). a.section.bytes.items ++ t) same in
    let end : end_of b.section ≡ at + item_length form item = omega (arith, ap length text, length-append a.section.bytes.items one, item_is_long labels at form item) in
    let own = item_refs at form item in
    let marks = item_marks at item in
    let after = text_marks (at + item_length form item) left rest in
    record {
      bytes = ap (λ (t : List ℕ). t ++ text_bytes labels (end_of b.section) left rest) text
          ∙ append_assoc a.section.bytes.items one (text_bytes labels (end_of b.section) left rest)
          ∙ ap (λ (p : ℕ). a.section.bytes.items ++ (one ++ text_bytes labels p left rest)) end
          ∙ h.bytes;
      refs = ap (λ (t : List Ref). t ++ text_refs (end_of b.section) left rest) put.section.refs_are
          ∙ append_assoc a.section.refs.items own (text_refs (end_of b.section) left rest)
          ∙ ap (λ (p : ℕ). a.section.refs.items ++ (own ++ text_refs p left rest)) end
          ∙ h.refs;
      marks = ap (λ (t : List ℕ). t ++ flat_map mark_bytes (text_marks (end_of b.section) left rest)) put.marks
          ∙ append_assoc a.marks.items (flat_map mark_bytes marks) (flat_map mark_bytes (text_marks (end_of b.section) left rest))
          ∙ ap (λ (p : ℕ). a.marks.items ++ (flat_map mark_bytes marks ++ flat_map mark_bytes (text_marks p left rest))) end
          ∙ ap (λ (t : List ℕ). a.marks.items ++ t) (sym (flat_append marks after))
          ∙ h.marks;
      valid = (and_parts (is_code_item item) (list_all is_code_item left) h.valid).1;
      many = omega (arith, h.many);
    }

-- the same of the first item and form of what is left
pub leaves_next : (labels : List ℕ → Option ℕ) (items : List CodeItem) (forms : List Size) (a b : Text) (left : List CodeItem) (rest : List Size) (item : CodeItem) (to : Option ℕ)
    → 1 ≤ length left → 1 ≤ length rest → item ≡ get_or left 0 item → to ≡ target_place labels (target_of item) → IsItemPut a b (get_or rest 0 Byte) to item
    → Leaves labels items forms a left rest → Leaves labels items forms b (take (length left - 1) (drop 1 left)) (take (length rest - 1) (drop 1 rest))
leaves_next labels items forms a b left rest item to some more is at put h =
    subst (λ (l : List CodeItem). Leaves labels items forms b l (take (length rest - 1) (drop 1 rest))) (sym (take_rest left 1))
    (subst (λ (r : List Size). Leaves labels items forms b (drop 1 left) r) (sym (take_rest rest 1)) (by left rest some more is put h))
  where
    by : (left : List CodeItem) (rest : List Size) → 1 ≤ length left → 1 ≤ length rest → item ≡ get_or left 0 item → IsItemPut a b (get_or rest 0 Byte) to item
        → Leaves labels items forms a left rest → Leaves labels items forms b (drop 1 left) (drop 1 rest)
    by [] rest some more is put h = absurd (omega (arith, some))
    by (x ∷ xs) [] some more is put h = absurd (omega (arith, more))
    by (x ∷ xs) (f ∷ fs) some more is put h =
        leaves_step labels items forms a b xs fs item f to (subst (λ (y : CodeItem). Leaves labels items forms a (y ∷ xs) (f ∷ fs)) (sym is) h) at put

pub leaves_start : (labels : List ℕ → Option ℕ) (items : List CodeItem) (forms : List Size) (t : Text) → t.section.bytes.items ≡ [] → t.section.refs.items ≡ [] → t.marks.items ≡ []
    → list_all is_code_item items ≡ true → length forms ≡ length items → Leaves labels items forms t items forms
leaves_start labels items forms t b r m valid many =
    let end : end_of t.section ≡ 0 = ap length b in
    record {
      bytes = ap (λ (x : List ℕ). x ++ text_bytes labels (end_of t.section) items forms) b ∙ ap (λ (p : ℕ). text_bytes labels p items forms) end;
      refs = ap (λ (x : List Ref). x ++ text_refs (end_of t.section) items forms) r ∙ ap (λ (p : ℕ). text_refs p items forms) end;
      marks = ap (λ (x : List ℕ). x ++ flat_map mark_bytes (text_marks (end_of t.section) items forms)) m ∙ ap (λ (p : ℕ). flat_map mark_bytes (text_marks p items forms)) end;
      valid = valid;
      many = many;
    }

pub leaves_end : (items : List CodeItem) (forms : List Size) (t : Text) (rest : List Size) → Leaves (label_at items forms) items forms t [] rest → IsText items forms t
leaves_end items forms t rest h = record {
  bytes = sym (append-nil t.section.bytes.items) ∙ h.bytes;
  refs = sym (append-nil t.section.refs.items) ∙ h.refs;
  marks = sym (append-nil t.marks.items) ∙ h.marks;
}

-- the section is short, so the next item has room
pub leaves_room : (items : List CodeItem) (forms : List Size) (places : List ℕ) (t : Text) (left : List CodeItem) (rest : List Size) → IsLaid items forms places
    → list_all is_code_item items ≡ true → Leaves (label_at items forms) items forms t left rest → end_of t.section + 64 < 2 ^ 32
leaves_room items forms places t left rest laid valid h =
    let long = ap length h.bytes in
    omega (arith, long, length-append t.section.bytes.items (text_bytes (label_at items forms) (end_of t.section) left rest), sections_end items forms valid laid.many, laid.short)

pub leaves_valid : (items : List CodeItem) (forms : List Size) (t : Text) (left : List CodeItem) (rest : List Size) (item : CodeItem) → Leaves (label_at items forms) items forms t (item ∷ left) rest
    → is_code_item item ≡ true
leaves_valid items forms t left rest item h = (and_parts (is_code_item item) (list_all is_code_item left) h.valid).0

pub leaves_many : (labels : List ℕ → Option ℕ) (items : List CodeItem) (forms : List Size) (t : Text) (left : List CodeItem) (item : CodeItem) → Leaves labels items forms t (item ∷ left) [] → ⊥
leaves_many labels items forms t left item h = omega (arith, h.many)

-- one item that is no instruction

pub label_put : (a b : Text) (form : Size) (to : Option ℕ) (name : List ℕ) → b.section ≡ a.section
    → b.marks.items ≡ a.marks.items ++ (field Long (end_of a.section) ++ 0 ∷ (length name ∷ name)) → IsItemPut a b form to (item_kind.Label name)
label_put a b form to name same h = record {
  section = record {
    bytes_are = ap (λ (s : Section). s.bytes.items) same ∙ sym (append-nil a.section.bytes.items);
    refs_are = ap (λ (s : Section). s.refs.items) same ∙ sym (append-nil a.section.refs.items);
  };
  marks = h ∙ ap (λ (t : List ℕ). a.marks.items ++ t) (sym (append-nil (field Long (end_of a.section) ++ 0 ∷ (length name ∷ name))));
}

pub globl_put : (a b : Text) (form : Size) (to : Option ℕ) (name : List ℕ) → b.section ≡ a.section
    → b.marks.items ≡ a.marks.items ++ (field Long (end_of a.section) ++ 1 ∷ (length name ∷ name)) → IsItemPut a b form to (item_kind.Globl name)
globl_put a b form to name same h = record {
  section = record {
    bytes_are = ap (λ (s : Section). s.bytes.items) same ∙ sym (append-nil a.section.bytes.items);
    refs_are = ap (λ (s : Section). s.refs.items) same ∙ sym (append-nil a.section.refs.items);
  };
  marks = h ∙ ap (λ (t : List ℕ). a.marks.items ++ t) (sym (append-nil (field Long (end_of a.section) ++ 1 ∷ (length name ∷ name))));
}

pub mask_put : (a b : Text) (form : Size) (to : Option ℕ) (mask : ℕ) → IsPut a.section b.section (item_bytes (λ label. to) (end_of a.section) form (item_kind.Mask mask)) []
    → b.marks.items ≡ a.marks.items ++ (field Long (end_of a.section) ++ 2 ∷ []) → IsItemPut a b form to (item_kind.Mask mask)
mask_put a b form to mask put h = record {
  section = put;
  marks = h ∙ ap (λ (t : List ℕ). a.marks.items ++ t) (sym (append-nil (field Long (end_of a.section) ++ 2 ∷ [])));
}

pub instr_put : (a b : Text) (form : Size) (to : Option ℕ) (i : Instr) → IsPut a.section b.section (item_bytes (λ label. to) (end_of a.section) form (item_kind.Instr i))
    (item_refs (end_of a.section) form (item_kind.Instr i))
    → b.marks.items ≡ a.marks.items → IsItemPut a b form to (item_kind.Instr i)
instr_put a b form to i put h = record { section = put; marks = h ∙ sym (append-nil a.marks.items) }

pub ruleset target_facts = (label_inside, place_small, target_found, target_missing)

pub ruleset text_steps = (leaves_start, leaves_end, leaves_room, leaves_valid, leaves_many)

pub ruleset item_facts = (label_put, globl_put, mask_put, instr_put)
