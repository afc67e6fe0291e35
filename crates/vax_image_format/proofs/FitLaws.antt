-- The marks and refs of a section lie within it.
use Rattle.std.proofs.Common.{◌≡◌, ℕ, suc, ◌+◌, ◌^◌, ◌<◌, ◌≤◌, Bool, true, false, cond, ltb, ◌&&◌, not, eqb, List, [], ◌∷◌, ◌++◌, length, Option, Some, None, refl, ap, arith, length-append}
use Rattle.std.specs.List.{list_all}
use Rattle.std.specs.Prelude.{nat_le}
use Rattle.std.proofs.lemmas.Bool.{and_parts, ltb-true, leb-true}
use Rattle.gg_base.specs.declared.size.Size.{Size}
use Rattle.gg_base.specs.declared.size.Size.TheVariants.{Byte, Word, Long}
use Rattle.gg_base.specs.Sizes.{bytes_of, low}
use Rattle.gg_base.specs.Names.{is_name_part}
use Rattle.vax_core.specs.declared.op.OperandKind.{OperandKind}
use Rattle.vax_core.specs.declared.operand.Base.{Base}
use Rattle.vax_core.specs.declared.operand.Base.TheVariants as bases
use Rattle.vax_core.specs.declared.operand.Operand.{Operand}
use Rattle.vax_core.specs.declared.code.Instr.{Instr}
use Rattle.vax_core.specs.declared.code.CodeItem.{CodeItem}
use Rattle.vax_core.specs.declared.code.CodeItem.TheVariants as item_kind
use Rattle.vax_core.specs.Ops.{shape}
use Rattle.vax_core.specs.Valid.{allows, is_name_start, is_name, is_long, is_addr_of, is_named_addr, is_base, is_index, is_operand, are_operands, is_target, is_instr, is_code_item}
use Rattle.vax_machine.specs.Functions.{action_of}
use Rattle.vax_machine.specs.Labels.{is_call}
use Rattle.vax_image_format.specs.Opcodes.{is_branch}
use Rattle.vax_image_format.specs.declared.field.Ref.{Ref}
use Rattle.vax_image_format.specs.declared.field.Mark.{Mark}
use Rattle.vax_image_format.specs.Specifiers.{field, ref, imm_bytes, imm_refs, addr_refs, addr_field, disp_size, base_bytes, base_refs, index_bytes, operand_bytes, operand_refs}
use Rattle.vax_image_format.specs.Instructions.{operands_bytes, operands_refs, way, head_bytes, target_ref, tail_bytes, target_size, target_length, item_length, item_bytes, item_refs}
use Rattle.vax_image_format.specs.Sections.{text_bytes, text_refs, text_marks}
use Rattle.vax_image_format.proofs.OpLaws.{no_kinds}
use Rattle.vax_image_format.proofs.LengthLaws.{field_length, head_some, more_text}

-- a name that is there has from 1 to 64 bytes
abbrev pub IsNamed : Option (List ℕ) → Type 0
IsNamed None = Unit {0}
IsNamed (Some []) = ⊥
IsNamed (Some (c ∷ cs)) = length cs ≤ 63

pub named_of : (name : List ℕ) → is_name name ≡ true → IsNamed (Some name)
named_of [] h = absurd (cc)
named_of (c ∷ cs) h =
    let p = and_parts (is_name_start c) (nat_le (length cs) 63 && list_all is_name_part cs) h in
    leb-true (length cs) 63 (and_parts (nat_le (length cs) 63) (list_all is_name_part cs) p.1).0

-- what a mark and a ref tell fits its fields
pub record IsFitMark (limit : ℕ) (m : Mark) : Type 0 where
  pub place : m.place < limit

pub record IsFitRef (limit : ℕ) (r : Ref) : Type 0 where
  pub place : r.place < limit
  pub offset : r.addr.offset < 2 ^ 32
  pub named : IsNamed r.addr.name

abbrev pub AllFit : {A : Type 0} → (A → Type 0) → List A → Type 0
AllFit P [] = Unit {0}
AllFit P (x ∷ xs) = P x × AllFit P xs

pub fit_append : {A : Type 0} (P : A → Type 0) (xs ys : List A) → AllFit P xs → AllFit P ys → AllFit P (xs ++ ys)
fit_append P [] ys h g = g
fit_append P (x ∷ xs) ys h g = (h.0, fit_append P xs ys h.1 g)

-- marks lie in the section

pub marks_fit : (labels : List ℕ → Option ℕ) (limit at : ℕ) (items : List CodeItem) (forms : List Size) → at + length (text_bytes labels at items forms) < limit
    → AllFit (IsFitMark limit) (text_marks at items forms)
marks_fit labels limit at [] forms lt = tt
marks_fit labels limit at (item ∷ items) [] lt = tt
marks_fit labels limit at (item_kind.Label name ∷ items) (form ∷ forms) lt =
    let m = more_text labels at (item_kind.Label name) items form forms in
    (record { place = omega (arith, lt) }, marks_fit labels limit (at + 0) items forms (omega (arith, m, lt)))
marks_fit labels limit at (item_kind.Globl name ∷ items) (form ∷ forms) lt =
    let m = more_text labels at (item_kind.Globl name) items form forms in
    (record { place = omega (arith, lt) }, marks_fit labels limit (at + 0) items forms (omega (arith, m, lt)))
marks_fit labels limit at (item_kind.Mask mask ∷ items) (form ∷ forms) lt =
    let m = more_text labels at (item_kind.Mask mask) items form forms in
    (record { place = omega (arith, lt) }, marks_fit labels limit (at + 2) items forms (omega (arith, m, lt)))
marks_fit labels limit at (item_kind.Instr i ∷ items) (form ∷ forms) lt =
    let m = more_text labels at (item_kind.Instr i) items form forms in
    marks_fit labels limit (at + item_length form (item_kind.Instr i)) items forms (omega (arith, m, lt))

-- refs lie in the section, and are no more than its bytes

pub record AreWithin (limit at count : ℕ) (refs : List Ref) : Type 0 where
  pub fit : AllFit (IsFitRef limit) refs
  pub few : length refs ≤ count

none_within : (limit at count : ℕ) → AreWithin limit at count []
none_within limit at count = record { fit = tt; few = omega arith }

one_within : (limit at count place : ℕ) (name : Option (List ℕ)) (offset : ℕ) → place < limit → offset < 2 ^ 32 → IsNamed name → 0 < count → AreWithin limit at count (ref place name offset)
one_within limit at count place name offset p o n c = record { fit = (record { place = p; offset = o; named = n }, tt); few = omega (arith, c) }

addr_parts : (name : List ℕ) (d : ℕ) → (is_name name && (is_long d && not (eqb d (2 ^ 31)))) ≡ true → (d < 2 ^ 32) × IsNamed (Some name)
addr_parts name d h =
    let p = and_parts (is_name name) (is_long d && not (eqb d (2 ^ 31))) h in
    (ltb-true d (2 ^ 32) (and_parts (is_long d) (not (eqb d (2 ^ 31))) p.1).0, named_of name p.0)

addr_within : (limit at count : ℕ) (name : Option (List ℕ)) (d : ℕ) → is_addr_of name d ≡ true → at + 1 < limit → 0 < count → AreWithin limit at count (addr_refs (at + 1) name d)
addr_within limit at count None d h lt c = none_within limit at count
addr_within limit at count (Some name) d h lt c =
    let p = addr_parts name d h in
    one_within limit at count (at + 1) (Some name) d lt p.0 p.1 c

named_is_addr_of : (name : Option (List ℕ)) (d : ℕ) → is_named_addr name d ≡ true → is_addr_of name d ≡ true
named_is_addr_of None d h = absurd (cc)
named_is_addr_of (Some name) d h = h

some_bytes : (size : Size) → 0 < bytes_of size
some_bytes Byte = omega arith
some_bytes Word = omega arith
some_bytes Long = omega arith

addr_field_length : (size : Size) (name : Option (List ℕ)) (d : ℕ) → 0 < length (addr_field size name d)
addr_field_length size None d = omega (arith, field_length size d, some_bytes size)
addr_field_length size (Some name) d = omega (arith, field_length size 0, some_bytes size)

imm_within : (limit at : ℕ) (size : Size) (name : Option (List ℕ)) (n : ℕ) → is_addr_of name n ≡ true → at + length (imm_bytes size name n) ≤ limit
    → AreWithin limit at (length (imm_bytes size name n)) (imm_refs at size name n)
imm_within limit at size (Some name) n h le =
    let p = addr_parts name n h in
    one_within limit at (suc (length (field size 0))) (at + 1) (Some name) n (omega (arith, le, field_length size 0, some_bytes size)) p.0 p.1 (omega arith)
imm_within limit at size None n h le = by (ltb n 64) (eqb (low size n) n) le
  where
    by : (a b : Bool) → at + length (cond a (n ∷ []) (0x8f ∷ field size n)) ≤ limit
        → AreWithin limit at (length (cond a (n ∷ []) (0x8f ∷ field size n))) (cond a [] (cond b [] (ref (at + 1) None n)))
    by true b le = none_within limit at 1
    by false true le = none_within limit at (suc (length (field size n)))
    by false false le =
        one_within limit at (suc (length (field size n))) (at + 1) None n (omega (arith, le, field_length size n, some_bytes size)) (ltb-true n (2 ^ 32) h) tt (omega arith)

base_within : (limit at : ℕ) (size : Size) (base : Base) → is_base base ≡ true → at + length (base_bytes size base) ≤ limit → AreWithin limit at (length (base_bytes size base)) (base_refs at size base)
base_within limit at size (bases.Imm a) h le = imm_within limit at size a.name a.offset h le
base_within limit at size (bases.Reg r) h le = none_within limit at 1
base_within limit at size (bases.Def r) h le = none_within limit at 1
base_within limit at size (bases.Inc r) h le = none_within limit at 1
base_within limit at size (bases.IncDef r) h le = none_within limit at 1
base_within limit at size (bases.Dec r) h le = none_within limit at 1
base_within limit at size (bases.Abs n) h le = none_within limit at 5
base_within limit at size (bases.Disp a r) h le =
    addr_within limit at _ a.name a.offset h (omega (arith, le, addr_field_length (disp_size a.name a.offset) a.name a.offset)) (omega arith)
base_within limit at size (bases.DispDef a r) h le =
    addr_within limit at _ a.name a.offset h (omega (arith, le, addr_field_length (disp_size a.name a.offset) a.name a.offset)) (omega arith)
base_within limit at size (bases.Rel a) h le =
    addr_within limit at _ a.name a.offset (named_is_addr_of a.name a.offset h) (omega (arith, le, addr_field_length Long a.name a.offset)) (omega arith)
base_within limit at size (bases.RelDef a) h le =
    addr_within limit at _ a.name a.offset (named_is_addr_of a.name a.offset h) (omega (arith, le, addr_field_length Long a.name a.offset)) (omega arith)

both_within : (limit at m n : ℕ) (xs ys : List Ref) → AreWithin limit at m xs → AreWithin limit at n ys → AreWithin limit at (m + n) (xs ++ ys)
both_within limit at m n xs ys a b = record { fit = fit_append (IsFitRef limit) xs ys a.fit b.fit; few = omega (arith, length-append xs ys, a.few, b.few) }

weaker : (limit at at2 m n : ℕ) (refs : List Ref) → m ≤ n → AreWithin limit at m refs → AreWithin limit at2 n refs
weaker limit at at2 m n refs le h = record { fit = h.fit; few = omega (arith, h.few, le) }

operand_within : (limit at : ℕ) (size : Size) (o : Operand) → is_base o.base ≡ true → at + length (operand_bytes size o) ≤ limit → AreWithin limit at (length (operand_bytes size o)) (operand_refs at size o)
operand_within limit at size o h le =
    let index = index_bytes o.index in
    let base = base_bytes size o.base in
    weaker limit (at + length index) at (length base) (length (index ++ base)) (base_refs (at + length index) size o.base) (omega (arith, length-append index base))
    (base_within limit (at + length index) size o.base h (omega (arith, length-append index base, le)))

operands_within : (limit at : ℕ) (kinds : List OperandKind) (os : List Operand) → are_operands kinds os ≡ true → at + length (operands_bytes kinds os) ≤ limit
    → AreWithin limit at (length (operands_bytes kinds os)) (operands_refs at kinds os)
operands_within limit at [] os h le = none_within limit at 0
operands_within limit at (kind ∷ kinds) [] h le = none_within limit at 0
operands_within limit at (kind ∷ kinds) (o ∷ os) h le =
    let p = and_parts (is_operand kind o) (are_operands kinds os) h in
    let valid = (and_parts (is_base o.base) (is_index o.base o.index) (and_parts (allows kind.access o.base) _ p.0).1).0 in
    let first = operand_bytes kind.size o in
    let more = operands_bytes kinds os in
    let l = length-append first more in
    weaker limit at at (length first + length more) (length (first ++ more)) (operand_refs at kind.size o ++ operands_refs (at + length first) kinds os) (omega (arith, l))
    (both_within limit at (length first) (length more) (operand_refs at kind.size o) (operands_refs (at + length first) kinds os)
    (operand_within limit at kind.size o valid (omega (arith, l, le)))
    (weaker limit (at + length first) at (length more) (length more) (operands_refs (at + length first) kinds os) (omega arith)
    (operands_within limit (at + length first) kinds os p.1 (omega (arith, l, le)))))

-- an instruction's head holds its opcode and operands
head_holds : (form : Size) (i : Instr) → suc (length (operands_bytes (shape i.op).operands i.operands)) ≤ length (head_bytes form i)
head_holds form i = by (is_branch (action_of i.op)) (is_call (action_of i.op)) refl refl
  where
    by : (a b : Bool) → is_branch (action_of i.op) ≡ a → is_call (action_of i.op) ≡ b → suc (length (operands_bytes (shape i.op).operands i.operands)) ≤ length (head_bytes form i)
    by true b ea eb = omega (arith, head_some form i, ap (λ (kinds : List OperandKind). length (operands_bytes kinds i.operands)) (no_kinds i.op ea))
    by false true ea eb = rw (ea, eb) (omega (arith, length-append (operands_bytes (shape i.op).operands i.operands) (0xef ∷ [])))
    by false false ea eb = rw (ea, eb) (omega arith)

target_named : (t : Bool) (name : List ℕ) → is_target t (Some name) ≡ true → is_name name ≡ true
target_named true name h = h
target_named false name h = absurd (cc)

target_within : (limit at : ℕ) (form : Size) (i : Instr) (t : Bool) (target : Option (List ℕ)) (place : ℕ) → is_target t target ≡ true → place + target_length form i target ≤ limit
    → AreWithin limit at (target_length form i target) (target_ref place target)
target_within limit at form i t None place h le = none_within limit at 0
target_within limit at form i t (Some label) place h le =
    one_within limit at (bytes_of (target_size form i)) place (Some label) 0 (omega (arith, le, some_bytes (target_size form i))) (omega arith)
    (named_of label (target_named t label h)) (some_bytes (target_size form i))

instr_within : (limit at : ℕ) (form : Size) (i : Instr) → is_instr i ≡ true → at + item_length form (item_kind.Instr i) ≤ limit
    → AreWithin limit at (item_length form (item_kind.Instr i)) (item_refs at form (item_kind.Instr i))
instr_within limit at form i valid le =
    let kinds = (shape i.op).operands in
    let p = and_parts (are_operands kinds i.operands) (is_target (shape i.op).target i.target) valid in
    let count = length (operands_bytes kinds i.operands) in
    let head = length (head_bytes form i) in
    let more = target_length form i i.target in
    let own = operands_refs (at + 1) kinds i.operands in
    let target = target_ref (at + head) i.target in
    weaker limit at at (count + more) (head + more) (own ++ target) (omega (arith, head_holds form i))
    (both_within limit at count more own target
    (weaker limit (at + 1) at count count own (omega arith) (operands_within limit (at + 1) kinds i.operands p.0 (omega (arith, head_holds form i, le))))
    (target_within limit at form i (shape i.op).target i.target (at + head) p.1 (omega (arith, le))))

pub text_within : (labels : List ℕ → Option ℕ) (limit at : ℕ) (items : List CodeItem) (forms : List Size) → list_all is_code_item items ≡ true
    → at + length (text_bytes labels at items forms) ≤ limit → AreWithin limit at (length (text_bytes labels at items forms)) (text_refs at items forms)
text_within labels limit at [] forms valid le = none_within limit at 0
text_within labels limit at (item ∷ items) [] valid le = none_within limit at 0
text_within labels limit at (item_kind.Label name ∷ items) (form ∷ forms) valid le =
    let p = and_parts (is_code_item (item_kind.Label name)) (list_all is_code_item items) valid in
    let m = more_text labels at (item_kind.Label name) items form forms in
    weaker limit (at + 0) at (length (text_bytes labels (at + 0) items forms)) _ (text_refs (at + 0) items forms) (omega (arith, m))
    (text_within labels limit (at + 0) items forms p.1 (omega (arith, m, le)))
text_within labels limit at (item_kind.Globl name ∷ items) (form ∷ forms) valid le =
    let p = and_parts (is_code_item (item_kind.Globl name)) (list_all is_code_item items) valid in
    let m = more_text labels at (item_kind.Globl name) items form forms in
    weaker limit (at + 0) at (length (text_bytes labels (at + 0) items forms)) _ (text_refs (at + 0) items forms) (omega (arith, m))
    (text_within labels limit (at + 0) items forms p.1 (omega (arith, m, le)))
text_within labels limit at (item_kind.Mask mask ∷ items) (form ∷ forms) valid le =
    let p = and_parts (is_code_item (item_kind.Mask mask)) (list_all is_code_item items) valid in
    let m = more_text labels at (item_kind.Mask mask) items form forms in
    weaker limit (at + 2) at (length (text_bytes labels (at + 2) items forms)) _ (text_refs (at + 2) items forms) (omega (arith, m))
    (text_within labels limit (at + 2) items forms p.1 (omega (arith, m, le)))
text_within labels limit at (item_kind.Instr i ∷ items) (form ∷ forms) valid le =
    let p = and_parts (is_code_item (item_kind.Instr i)) (list_all is_code_item items) valid in
    let long = item_length form (item_kind.Instr i) in
    let m = more_text labels at (item_kind.Instr i) items form forms in
    let behind = text_bytes labels (at + long) items forms in
    weaker limit at at (long + length behind) (length (text_bytes labels at (item_kind.Instr i ∷ items) (form ∷ forms))) (item_refs at form (item_kind.Instr i) ++ text_refs (at + long) items forms)
    (omega (arith, m))
    (both_within limit at long (length behind) (item_refs at form (item_kind.Instr i)) (text_refs (at + long) items forms)
    (instr_within limit at form i p.0 (omega (arith, m, le)))
    (weaker limit (at + long) at (length behind) (length behind) (text_refs (at + long) items forms) (omega arith) (text_within labels limit (at + long) items forms p.1 (omega (arith, m, le)))))
