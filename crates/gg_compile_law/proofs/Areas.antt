-- A data area of the objects' blocks holds the objects.
use Rattle.std.proofs.Common.{◌≡◌, ℕ, zero, suc, ◌+◌, ◌-◌, ◌%◌, ◌^◌, ◌≤◌, Bool, true, false, cond, List, [], ◌∷◌, ◌++◌, length, replicate, Option, Some, None, refl, sym, ap, subst}
use Rattle.std.proofs.Common.{◌∙◌, arith, append_assoc, length-append}
use Rattle.std.specs.Prelude.{slice_get, ◌&&◌, ◌||◌, ◌==◌, nat_le}
use Rattle.std.specs.Str.{bytes_eq}
use Rattle.std.proofs.lemmas.Bool.{and_parts, eqb-true, leb-true, true≢false}
use Rattle.std.proofs.lemmas.List.{length-replicate}
use Rattle.std.proofs.lemmas.Slice.Eq.{bytes_eq-Decides}
use Rattle.std.proofs.lemmas.Option.{same_Some}
use Rattle.std.specs.Option.{option_or}
use Rattle.gg_base.proofs.Facts.{some_none, or_true}
use Rattle.vax_core.specs.declared.code.Code.{Code}
use Rattle.vax_core.specs.declared.code.CodeItem.{CodeItem}
use Rattle.vax_core.specs.declared.code.AreaItem.{AreaItem}
use Rattle.vax_core.specs.declared.code.AreaItem.TheVariants as areas
use Rattle.vax_machine.specs.Area.{zeros, padding, size_at, end_from, is_area_label, has_area_label, address_from, label_address, item_bytes, bytes_from}
use Rattle.vax_machine.specs.Labels.{is_service, has_label, double_area_label, double_label}
use Rattle.vax_machine.specs.Loading.{Loads, or_double}
use Rattle.tree_core.specs.declared.program.Object.{Object}
use Rattle.tree_core.specs.Area.{bytes_from as opening_from}
use Rattle.tree_core.specs.Valid.{rounded, is_aligned, is_whole, is_placed, object_lies, objects_lie}
use Rattle.vax_machine_lists.specs.Sound.{AllBelow}
use Rattle.gg_compile_law.specs.Areas.{IsBlock, AreBlocks, none, more, BlocksHoldObjects}
use Rattle.vax_machine_lists.proofs.Longwords.{below_append}
use Rattle.vax_machine_lists.proofs.Beginning.{below_zeros}

-- ---- one behind another

bytes_behind : (whole xs ys : List AreaItem) (at : ℕ) → bytes_from whole (xs ++ ys) at ≡ bytes_from whole xs at ++ bytes_from whole ys (end_from xs at)
bytes_behind whole [] ys at = refl
bytes_behind whole (x ∷ xs) ys at =
    ap (λ (l : List ℕ). item_bytes whole x at ++ l) (bytes_behind whole xs ys (at + size_at x at))
    ∙ sym (append_assoc (item_bytes whole x at) (bytes_from whole xs (at + size_at x at)) (bytes_from whole ys (end_from xs (at + size_at x at))))

pub end_behind : (xs ys : List AreaItem) (at : ℕ) → end_from (xs ++ ys) at ≡ end_from ys (end_from xs at)
end_behind [] ys at = refl
end_behind (x ∷ xs) ys at = end_behind xs ys (at + size_at x at)

-- ---- where an object lies

pad_is : (align at : ℕ) → ((align == 1) || ((align == 2) || (align == 4))) ≡ true → at + (align - at % align) % align ≡ rounded align at
pad_is align at h = by (align == 1) (align == 2) (align == 4) refl refl refl h
  where
    at_one : (a : ℕ) → a ≡ 1 → at + (a - at % a) % a ≡ rounded a at
    at_one a e = subst (λ (x : ℕ). at + (x - at % x) % x ≡ rounded x at) (sym e) (omega arith)

    at_two : (a : ℕ) → a ≡ 2 → at + (a - at % a) % a ≡ rounded a at
    at_two a e = subst (λ (x : ℕ). at + (x - at % x) % x ≡ rounded x at) (sym e) (omega arith)

    at_four : (a : ℕ) → a ≡ 4 → at + (a - at % a) % a ≡ rounded a at
    at_four a e = subst (λ (x : ℕ). at + (x - at % x) % x ≡ rounded x at) (sym e) (omega arith)

    by : (b c d : Bool) → (align == 1) ≡ b → (align == 2) ≡ c → (align == 4) ≡ d → (b || (c || d)) ≡ true → at + (align - at % align) % align ≡ rounded align at
    by true c d p q r h = at_one align (eqb-true align 1 p)
    by false true d p q r h = at_two align (eqb-true align 2 q)
    by false false true p q r h = at_four align (eqb-true align 4 r)
    by false false false p q r h = absurd (true≢false (sym h))

pub record Lies (o : Object) (at power : ℕ) : Type 0 where
  pub begins : at + padding power at ≡ o.address
  pub whole : length o.bytes ≡ o.size
  pub high : o.address + o.size ≤ 1114112

pub lies : (o : Object) (at power : ℕ) → 2 ^ power ≡ o.align → object_lies at o ≡ true → Lies o at power
lies o at power e h =
    let a = and_parts (is_aligned o) (is_whole o && is_placed at o) h in
    let b = and_parts (is_whole o) (is_placed at o) a.1 in
    let c = and_parts (o.address == rounded o.align at) (nat_le (o.address + o.size) (65536 + 1048576)) b.1 in
    record {
      begins = ap (λ (x : ℕ). at + (x - at % x) % x) e ∙ pad_is o.align at a.0 ∙ sym (eqb-true o.address (rounded o.align at) c.0);
      whole = eqb-true (length o.bytes) o.size b.0;
      high = leb-true (o.address + o.size) (65536 + 1048576) c.1;
    }

pub zeros_are : (n m : ℕ) → n ≡ m → zeros n ≡ replicate m 0
unfolding zeros
zeros_are n m e = ap (λ (k : ℕ). replicate k 0) e

-- ---- a block

module _ (whole : List AreaItem) (o : Object) (part : List AreaItem) (b : IsBlock whole o part) (at : ℕ) (l : Lies o at b.power) where
  content_at : at + padding b.power at + 0 ≡ o.address
  content_at = omega (arith, l.begins)

  block_bytes : bytes_from whole part at ≡ replicate (o.address - at) 0 ++ o.bytes
  block_bytes =
      ap (λ (x : List AreaItem). bytes_from whole x at) b.part_is
      ∙ ap (λ (a : ℕ). zeros (padding b.power at) ++ bytes_from whole b.content a) content_at
      ∙ ap (λ (x : List ℕ). zeros (padding b.power at) ++ x) b.spelled
      ∙ ap (λ (x : List ℕ). x ++ o.bytes) (zeros_are (padding b.power at) (o.address - at) (omega (arith, l.begins)))

  block_end : end_from part at ≡ o.address + o.size
  block_end = ap (λ (x : List AreaItem). end_from x at) b.part_is ∙ ap (λ (a : ℕ). end_from b.content a) content_at ∙ b.ends

-- ---- all blocks

module _ (whole : List AreaItem) where
  blocks_bytes : (os : List Object) (part : List AreaItem) (at : ℕ) → AreBlocks whole os part → objects_lie at os ≡ true → bytes_from whole part at ≡ opening_from at os
  blocks_bytes os part at none h = refl
  blocks_bytes os part at (more o rest_os front rest b others) h =
      let a = and_parts (object_lies at o) (objects_lie (o.address + o.size) rest_os) h in
      let l = lies o at b.power b.align a.0 in
      bytes_behind whole front rest at
      ∙ ap (λ (x : List ℕ). x ++ bytes_from whole rest (end_from front at)) (block_bytes whole o front b at l)
      ∙ ap (λ (e : ℕ). (replicate (o.address - at) 0 ++ o.bytes) ++ bytes_from whole rest e) (block_end whole o front b at l)
      ∙ ap (λ (x : List ℕ). (replicate (o.address - at) 0 ++ o.bytes) ++ x) (blocks_bytes rest_os rest (o.address + o.size) others a.1)
      ∙ append_assoc (replicate (o.address - at) 0) o.bytes (opening_from (o.address + o.size) rest_os)

  blocks_size : (os : List Object) (part : List AreaItem) (at : ℕ) → AreBlocks whole os part → objects_lie at os ≡ true → at ≤ 1114112 → at + length (opening_from at os) ≤ 1114112
  blocks_size os part at none h low = omega (arith, low)
  blocks_size os part at (more o rest_os front rest b others) h low =
      let a = and_parts (object_lies at o) (objects_lie (o.address + o.size) rest_os) h in
      let l = lies o at b.power b.align a.0 in
      let more = blocks_size rest_os rest (o.address + o.size) others a.1 l.high in
      omega (
        arith,
        more,
        l.begins,
        l.whole,
        length-append (replicate {A = ℕ} (o.address - at) 0) (o.bytes ++ opening_from (o.address + o.size) rest_os),
        length-append o.bytes
            (opening_from (o.address + o.size) rest_os),
        length-replicate {A = ℕ} (o.address - at) 0,
      )

  blocks_below : (os : List Object) (part : List AreaItem) (at : ℕ) → AreBlocks whole os part → AllBelow 256 (opening_from at os)
  blocks_below os part at none = tt
  blocks_below os part at (more o rest_os front rest b others) =
      below_append 256 (replicate (o.address - at) 0) _ (below_zeros (o.address - at)) (below_append 256 o.bytes _ b.bytes (blocks_below rest_os rest (o.address + o.size) others))

-- ---- labels

has_there : (pre post : List AreaItem) (n : List ℕ) → has_area_label (pre ++ areas.Label n ∷ post) n ≡ true
has_there [] post n = ap (λ (b : Bool). b || has_area_label post n) ((bytes_eq-Decides n n).1 refl)
has_there (x ∷ pre) post n = ap (λ (b : Bool). is_area_label x n || b) (has_there pre post n) ∙ or_true (is_area_label x n)

not_double : (x : AreaItem) (pre post : List AreaItem) (n : List ℕ) (code : List CodeItem) → double_area_label (x ∷ (pre ++ areas.Label n ∷ post)) code ≡ None
    → (is_area_label x n ≡ false) × (double_area_label (pre ++ areas.Label n ∷ post) code ≡ None)
not_double (areas.Globl m) pre post n code e = (refl, e)
not_double (areas.Align m) pre post n code e = (refl, e)
not_double (areas.Byte m) pre post n code e = (refl, e)
not_double (areas.Word m) pre post n code e = (refl, e)
not_double (areas.Long m) pre post n code e = (refl, e)
not_double (areas.Space m) pre post n code e = (refl, e)
not_double (areas.Label m) pre post n code e = by (is_service m) (has_area_label (pre ++ areas.Label n ∷ post) m) (has_label code m) refl e
  where
    other : (b : Bool) → bytes_eq m n ≡ b → has_area_label (pre ++ areas.Label n ∷ post) m ≡ false → bytes_eq m n ≡ false
    other true eq h =
        let same : m ≡ n = (bytes_eq-Decides m n).0 eq in
        absurd (true≢false (sym (ap (λ (k : List ℕ). has_area_label (pre ++ areas.Label n ∷ post) k) same ∙ has_there pre post n) ∙ h))
    other false eq h = eq

    by : (b c d : Bool) → has_area_label (pre ++ areas.Label n ∷ post) m ≡ c → cond (b || (c || d)) (Some m) (double_area_label (pre ++ areas.Label n ∷ post) code) ≡ None
        → (bytes_eq m n ≡ false) × (double_area_label (pre ++ areas.Label n ∷ post) code ≡ None)
    by true c d h e = absurd (some_none m e)
    by false true d h e = absurd (some_none m e)
    by false false true h e = absurd (some_none m e)
    by false false false h e = (other (bytes_eq m n) refl h, e)

pub first_address : (pre post : List AreaItem) (n : List ℕ) (code : List CodeItem) (at : ℕ) → double_area_label (pre ++ areas.Label n ∷ post) code ≡ None
    → address_from (pre ++ areas.Label n ∷ post) at n ≡ end_from pre at
first_address [] post n code at e = ap (λ (b : Bool). cond b at (address_from post (at + 0) n)) ((bytes_eq-Decides n n).1 refl)
first_address (x ∷ pre) post n code at e =
    let d = not_double x pre post n code e in
    ap (λ (b : Bool). cond b at (address_from (pre ++ areas.Label n ∷ post) (at + size_at x at) n)) d.0 ∙ first_address pre post n code (at + size_at x at) d.1

pub area_labels_differ : (c : Code) → Loads c → double_area_label c.area c.items ≡ None
area_labels_differ c h = by (double_area_label c.area c.items) (double_label c.items) h
  where
    by : (a b : Option (List ℕ)) → or_double (option_or a b) c ≡ None → a ≡ None
    by (Some n) b e = absurd (some_none _ e)
    by None b e = refl

module _ (whole : List AreaItem) (code : List CodeItem) (once : double_area_label whole code ≡ None) where
  block_label : (o : Object) (part pre post : List AreaItem) (b : IsBlock whole o part) → Lies o (end_from pre 65536) b.power → whole ≡ pre ++ (part ++ post) → label_address whole o.label ≡ o.address
  block_label o part pre post b l e =
      let front = pre ++ areas.Align b.power ∷ [] in
      let tail = b.content ++ post in
      let split : whole ≡ front ++ areas.Label o.label ∷ tail =
      e ∙ ap (λ (x : List AreaItem). pre ++ (x ++ post)) b.part_is ∙ sym (append_assoc pre (areas.Align b.power ∷ []) (areas.Label o.label ∷ tail)) in
      ap (λ (x : List AreaItem). address_from x 65536 o.label) split
      ∙ first_address front tail o.label code 65536 (subst (λ (x : List AreaItem). double_area_label x code ≡ None) split once)
      ∙ end_behind pre (areas.Align b.power ∷ []) 65536 ∙ l.begins

  all_labels : (os : List Object) (part pre : List AreaItem) (at : ℕ) → AreBlocks whole os part → objects_lie at os ≡ true → end_from pre 65536 ≡ at → whole ≡ pre ++ part
      → (n : ℕ) (o : Object) → slice_get os n ≡ Some o → label_address whole o.label ≡ o.address
  all_labels os part pre at none h begins e zero o is = absurd cc
  all_labels os part pre at none h begins e (suc n) o is = absurd cc
  all_labels os part pre at (more x rest_os front rest b others) h begins e zero o is =
      let a = and_parts (object_lies at x) (objects_lie (x.address + x.size) rest_os) h in
      subst (λ (y : Object). label_address whole y.label ≡ y.address) (same_Some x o is)
      (block_label x front pre rest b (subst (λ (k : ℕ). Lies x k b.power) (sym begins) (lies x at b.power b.align a.0)) e)
  all_labels os part pre at (more x rest_os front rest b others) h begins e (suc n) o is =
      let a = and_parts (object_lies at x) (objects_lie (x.address + x.size) rest_os) h in
      let l = lies x at b.power b.align a.0 in
      all_labels rest_os rest (pre ++ front) (x.address + x.size) others a.1
      (end_behind pre front 65536 ∙ ap (λ (k : ℕ). end_from front k) begins ∙ block_end whole x front b at l) (e ∙ sym (append_assoc pre front rest)) n o is

pub blocks_hold_objects : BlocksHoldObjects
blocks_hold_objects program c v loads blocks =
    let size = blocks_size c.area program.objects c.area 65536 blocks v.objects (omega arith) in
    record {
      labelled = all_labels c.area c.items (area_labels_differ c loads) program.objects c.area [] 65536 blocks v.objects refl refl;
      area = blocks_bytes c.area program.objects c.area 65536 blocks v.objects;
      bytes = blocks_below c.area program.objects c.area 65536 blocks;
      size = omega (arith, size);
    }
