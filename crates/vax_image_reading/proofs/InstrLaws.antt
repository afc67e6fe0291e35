-- Each spelling of an instruction is found.
use Rattle.std.proofs.Common.{◌≡◌, ℕ, suc, ◌+◌, ◌-◌, ◌^◌, ◌<◌, ◌≤◌, Bool, true, false, cond, eqb, ltb, ◌||◌, List, [], ◌∷◌, ◌++◌, length, Option, Some, None, refl, sym, ap, subst, ◌∙◌, arith}
use Rattle.std.proofs.Common.{append_assoc, length-append}
use Rattle.std.proofs.lemmas.Bool.{and_parts, eq-eqb, le-leb}
use Rattle.std.proofs.lemmas.List.{append-nil}
use Rattle.std.proofs.Math.Nat.{mod-lt}
use Rattle.gg_base.specs.declared.size.Size.{Size}
use Rattle.gg_base.specs.declared.size.Size.TheVariants.{Byte, Word, Long}
use Rattle.gg_base.specs.Sizes.{bytes_of, low}
use Rattle.gg_base.specs.LittleEndian.{number_in}
use Rattle.vax_core.specs.declared.op.Op.{Op}
use Rattle.vax_core.specs.declared.op.Op.TheVariants.{Jbr}
use Rattle.vax_core.specs.declared.op.OperandKind.{OperandKind}
use Rattle.vax_core.specs.declared.operand.Base.{Base}
use Rattle.vax_core.specs.declared.operand.Base.TheVariants as bases
use Rattle.vax_core.specs.declared.operand.Operand.{Operand}
use Rattle.vax_core.specs.declared.code.Instr.{Instr}
use Rattle.vax_core.specs.declared.code.CodeItem.TheVariants as item_kind
use Rattle.vax_core.specs.Ops.{shape}
use Rattle.vax_core.specs.Valid.{allows, is_base, is_index, is_operand, are_operands, is_target}
use Rattle.vax_machine.specs.Functions.{action_of}
use Rattle.vax_machine.specs.Labels.{is_call}
use Rattle.vax_image_format.specs.declared.field.Ref.{Ref}
use Rattle.vax_image_format.specs.Opcodes.{opcode, opposite, is_branch, is_conditional}
use Rattle.vax_image_format.specs.Specifiers.{field, ref, index_bytes, imm_refs, addr_refs, base_refs, operand_bytes, operand_refs}
use Rattle.vax_image_format.specs.Instructions.{operands_bytes, operands_refs, before_field, way, item_length, item_bytes, item_refs}
use Rattle.vax_image_reading.specs.Fronts.{Front, front, field_front}
use Rattle.vax_image_reading.specs.Instrs.{made, target_front, operands_front, behind_op, behind_opcode, instr_front}
use Rattle.vax_image_reading.specs.Taken.{AreLater, InstrsAreRead}
use Rattle.vax_image_reading.proofs.FieldLaws.{byte_again, no_ref, named_again}
use Rattle.vax_image_reading.proofs.OperandLaws.{operand_again}
use Rattle.vax_image_format.proofs.OpLaws.{op_again, no_jump, has_target, HasOpposite, opposites, no_kinds, always}

-- refs of what stands behind a place are later

pub sooner : (p q : ℕ) (refs : List Ref) → p ≤ q → AreLater q refs → AreLater p refs
sooner p q [] le h = tt
sooner p q (r ∷ refs) le h = omega (arith, le, h)

imm_later : (p at : ℕ) (size : Size) (name : Option (List ℕ)) (n : ℕ) (refs : List Ref) → p ≤ at → AreLater p refs → AreLater p (imm_refs at size name n ++ refs)
imm_later p at size (Some name) n refs le h = omega (arith, le)
imm_later p at size None n refs le h = by (ltb n 64) (eqb (low size n) n)
  where
    by : (a b : Bool) → AreLater p (cond a [] (cond b [] (ref (at + 1) None n)) ++ refs)
    by true b = h
    by false true = h
    by false false = omega (arith, le)

addr_later : (p at : ℕ) (name : Option (List ℕ)) (d : ℕ) (refs : List Ref) → p ≤ at → AreLater p refs → AreLater p (addr_refs at name d ++ refs)
addr_later p at None d refs le h = h
addr_later p at (Some name) d refs le h = le

base_later : (p at : ℕ) (size : Size) (base : Base) (refs : List Ref) → p ≤ at → AreLater p refs → AreLater p (base_refs at size base ++ refs)
base_later p at size (bases.Imm a) refs le h = imm_later p at size a.name a.offset refs le h
base_later p at size (bases.Reg r) refs le h = h
base_later p at size (bases.Def r) refs le h = h
base_later p at size (bases.Inc r) refs le h = h
base_later p at size (bases.IncDef r) refs le h = h
base_later p at size (bases.Dec r) refs le h = h
base_later p at size (bases.Abs n) refs le h = h
base_later p at size (bases.Disp a r) refs le h = addr_later p (at + 1) a.name a.offset refs (omega (arith, le)) h
base_later p at size (bases.DispDef a r) refs le h = addr_later p (at + 1) a.name a.offset refs (omega (arith, le)) h
base_later p at size (bases.Rel a) refs le h = addr_later p (at + 1) a.name a.offset refs (omega (arith, le)) h
base_later p at size (bases.RelDef a) refs le h = addr_later p (at + 1) a.name a.offset refs (omega (arith, le)) h

pub operands_later : (p at : ℕ) (kinds : List OperandKind) (os : List Operand) (refs : List Ref) → p ≤ at → AreLater p refs → AreLater p (operands_refs at kinds os ++ refs)
operands_later p at [] os refs le h = h
operands_later p at (kind ∷ kinds) [] refs le h = h
operands_later p at (kind ∷ kinds) (o ∷ os) refs le h =
    let behind = operands_refs (at + length (operand_bytes kind.size o)) kinds os in
    subst (AreLater p) (sym (append_assoc (operand_refs at kind.size o) behind refs))
    (base_later p (at + length (index_bytes o.index)) kind.size o.base (behind ++ refs) (omega (arith, le))
    (operands_later p (at + length (operand_bytes kind.size o)) kinds os refs (omega (arith, le)) h))

-- operands

pub operands_again : (read : List Operand) (kinds : List OperandKind) (os : List Operand) (place : ℕ) (rest : List ℕ) (refs : List Ref) → are_operands kinds os ≡ true
    → AreLater (place + length (operands_bytes kinds os)) refs
    → operands_front read kinds (front place (operands_bytes kinds os ++ rest) (operands_refs place kinds os ++ refs))
    ≡ Some (read ++ os, front (place + length (operands_bytes kinds os)) rest refs)
operands_again read [] [] place rest refs h later =
    let none : place ≡ place + 0 = omega arith in
    ap (λ (t : List Operand). Some (t, front place rest refs)) (sym (append-nil read)) ∙ ap (λ (p : ℕ). Some (read ++ [], front p rest refs)) none
operands_again read [] (o ∷ os) place rest refs h later = absurd (cc)
operands_again read (kind ∷ kinds) [] place rest refs h later = absurd (cc)
operands_again read (kind ∷ kinds) (o ∷ os) place rest refs h later =
    let p = and_parts (is_operand kind o) (are_operands kinds os) h in
    let valid = (and_parts (is_base o.base) (is_index o.base o.index) (and_parts (allows kind.access o.base) _ p.0).1).0 in
    let first = operand_bytes kind.size o in
    let more = operands_bytes kinds os in
    let at = place + length first in
    let own = operands_refs at kinds os in
    let long : place + length (first ++ more) ≡ at + length more = omega (arith, length-append first more) in
    let behind : AreLater (at + length more) refs = subst (λ (q : ℕ). AreLater q refs) long later in
    let next : AreLater at (own ++ refs) = operands_later at at kinds os refs (omega arith) (sooner at (at + length more) refs (omega arith) behind) in
    ap (λ (b : List ℕ). operands_front read (kind ∷ kinds) (front place b ((operand_refs place kind.size o ++ own) ++ refs))) (append_assoc first more rest)
    ∙ ap (λ (r : List Ref). operands_front read (kind ∷ kinds) (front place (first ++ (more ++ rest)) r)) (append_assoc (operand_refs place kind.size o) own refs)
    ∙ rw (operand_again kind.size o place (more ++ rest) (own ++ refs) valid next)
    (operands_again (read ++ o ∷ []) kinds os at rest refs p.1 behind
    ∙ ap (λ (t : List Operand). Some (t, front (at + length more) rest refs)) (append_assoc read (o ∷ []) os)
    ∙ ap (λ (q : ℕ). Some (read ++ o ∷ os, front q rest refs)) (sym long))

-- targets

pub target_again : (size : Size) (op : Op) (os : List Operand) (n p q : ℕ) (label : List ℕ) (rest : List ℕ) (refs : List Ref) → n < 2 ^ 32 → q ≡ p
    → target_front size op os (front p (field size n ++ rest) (ref q (Some label) 0 ++ refs)) ≡ Some (made op os (Some label), front (p + bytes_of size) rest refs)
target_again size op os n p q label rest refs lt e =
    ap (λ (x : ℕ). target_front size op os (front p (field size n ++ rest) (ref x (Some label) 0 ++ refs))) e
    ∙ rw (named_again size n p (Some label) 0 rest refs lt) refl

-- behind an opcode

opened : (b place : ℕ) (rest : List ℕ) (refs : List Ref) → instr_front (front place (b ∷ rest) refs) ≡ behind_opcode (b, front (place + 1) rest refs)
unfolding instr_front
opened b place rest refs = rw (byte_again place b rest refs) refl

by_opcode : (op : Op) (f : Front) → behind_opcode (opcode op, f) ≡ behind_op f op
by_opcode op f = rw ((no_jump op).0, (no_jump op).1, op_again op) refl

moved : (i : Instr) (p q : ℕ) (rest : List ℕ) (refs : List Ref) → p ≡ q → ◌≡◌ {A = Option (Instr × Front)} (Some (i, front p rest refs)) (Some (i, front q rest refs))
moved i p q rest refs e = ap (λ (n : ℕ). Some (i, front n rest refs)) e

two_skipped : (place b c : ℕ) (rest : List ℕ) (refs : List Ref) → (n : ℕ) × (field_front Word (front place (b ∷ (c ∷ rest)) refs) ≡ Some (n, front (place + 2) rest refs))
unfolding field_front
two_skipped place b c rest refs = (number_in Word (b ∷ (c ∷ rest)) 0, rw (le-leb 2 (suc (suc (length rest))) (omega arith)) refl)

-- branches

BranchRead : Op → List ℕ → Size → Type 0
BranchRead op head size = (n place : ℕ) (label rest : List ℕ) (refs : List Ref) → n < 2 ^ 32
    → instr_front (front place ((head ++ field size n) ++ rest) (ref (place + length head) (Some label) 0 ++ refs))
    ≡ Some (made op [] (Some label), front (place + (length head + bytes_of size)) rest refs)

short_read : (op : Op) → is_branch (action_of op) ≡ true → BranchRead op (opcode op ∷ []) Byte
unfolding BranchRead
short_read op branch n place label rest refs lt =
    let p = place + 1 in
    opened (opcode op) place (field Byte n ++ rest) (ref p (Some label) 0 ++ refs)
    ∙ by_opcode op (front p (field Byte n ++ rest) (ref p (Some label) 0 ++ refs))
    ∙ rw (branch, eq-eqb p p refl) (target_again Byte op [] n p p label rest refs lt refl)
    ∙ moved (made op [] (Some label)) (p + 1) (place + (1 + 1)) rest refs (omega arith)

brw_read : BranchRead Jbr (0x31 ∷ []) Word
unfolding BranchRead
brw_read n place label rest refs lt =
    let p = place + 1 in
    opened 0x31 place (field Word n ++ rest) (ref p (Some label) 0 ++ refs)
    ∙ target_again Word Jbr [] n p p label rest refs lt refl
    ∙ moved (made Jbr [] (Some label)) (p + 2) (place + (1 + 2)) rest refs (omega arith)

jmp_read : BranchRead Jbr (0x17 ∷ (0xef ∷ [])) Long
unfolding BranchRead
jmp_read n place label rest refs lt =
    let p = place + 1 in
    let q = place + 2 in
    opened 0x17 place (0xef ∷ (field Long n ++ rest)) (ref q (Some label) 0 ++ refs)
    ∙ rw (byte_again p 0xef (field Long n ++ rest) (ref q (Some label) 0 ++ refs))
    (target_again Long Jbr [] n (p + 1) q label rest refs lt (omega arith))
    ∙ moved (made Jbr [] (Some label)) (p + 1 + 4) (place + (2 + 4)) rest refs (omega arith)

round_word_read : (op : Op) → HasOpposite op → BranchRead op (opposite op ∷ (0x03 ∷ (0x31 ∷ []))) Word
unfolding BranchRead
round_word_read op h n place label rest refs lt =
    let p = place + 1 in
    let q = place + 3 in
    let own = ref q (Some label) 0 ++ refs in
    opened (opposite op) place (0x03 ∷ (0x31 ∷ (field Word n ++ rest))) own
    ∙ rw (
      h.word,
      h.long,
      h.first,
      h.branch,
      (no_ref p (p + 1) own (omega arith) (omega arith)).0,
      h.back,
      byte_again p 0x03 (0x31 ∷ (field Word n ++ rest)) own,
      byte_again (p + 1) 0x31 (field Word n ++ rest) own,
    )
    (target_again Word op [] n (p + 1 + 1) q label rest refs lt (omega arith))
    ∙ moved (made op [] (Some label)) (p + 1 + 1 + 2) (place + (3 + 2)) rest refs (omega arith)

round_long_read : (op : Op) → HasOpposite op → BranchRead op (opposite op ∷ (0x06 ∷ (0x17 ∷ (0xef ∷ [])))) Long
unfolding BranchRead
round_long_read op h n place label rest refs lt =
    let p = place + 1 in
    let q = place + 4 in
    let own = ref q (Some label) 0 ++ refs in
    let skipped = two_skipped (p + 1) 0x17 0xef (field Long n ++ rest) own in
    opened (opposite op) place (0x06 ∷ (0x17 ∷ (0xef ∷ (field Long n ++ rest)))) own
    ∙ rw (
      h.word,
      h.long,
      h.first,
      h.branch,
      (no_ref p (p + 1) own (omega arith) (omega arith)).0,
      h.back,
      byte_again p 0x06 (0x17 ∷ (0xef ∷ (field Long n ++ rest))) own,
      skipped.1,
    )
    (target_again Long op [] n (p + 1 + 2) q label rest refs lt (omega arith))
    ∙ moved (made op [] (Some label)) (p + 1 + 2 + 4) (place + (4 + 4)) rest refs (omega arith)

-- the branch in each of its forms
any_form : (form : Size) (op : Op) (c : Bool) → is_branch (action_of op) ≡ true → is_conditional (action_of op) ≡ c → BranchRead op (before_field form c op) form
any_form Byte op c b e = short_read op b
any_form Word op false b e = subst (λ (o : Op). BranchRead o (0x31 ∷ []) Word) (sym (always op b e)) brw_read
any_form Word op true b e = round_word_read op (opposites op e)
any_form Long op false b e = subst (λ (o : Op). BranchRead o (0x17 ∷ (0xef ∷ [])) Long) (sym (always op b e)) jmp_read
any_form Long op true b e = round_long_read op (opposites op e)

way_small : (end : ℕ) (to : Option ℕ) → way end to < 2 ^ 32
way_small end None = omega arith
way_small end (Some to) = mod-lt (to + (2 ^ 32 - end)) (omega arith)

-- what is to be shown of an instruction
InstrRead : (List ℕ → Option ℕ) → Size → Op → List Operand → Option (List ℕ) → ℕ → List ℕ → List Ref → Type 0
InstrRead labels form op os target place rest refs =
    instr_front (front place (item_bytes labels place form (item_kind.Instr (made op os target)) ++ rest) (item_refs place form (item_kind.Instr (made op os target)) ++ refs))
    ≡ Some (made op os target, front (place + item_length form (item_kind.Instr (made op os target))) rest refs)

branch_again : (labels : List ℕ → Option ℕ) (form : Size) (op : Op) (label : List ℕ) (place : ℕ) (rest : List ℕ) (refs : List Ref) → is_branch (action_of op) ≡ true
    → InstrRead labels form op [] (Some label) place rest refs
unfolding BranchRead InstrRead
branch_again labels form op label place rest refs branch =
    let head = before_field form (is_conditional (action_of op)) op in
    let n = way (place + (length head + bytes_of form)) (labels label) in
    rw (branch, no_kinds op branch)
    (any_form form op (is_conditional (action_of op)) branch refl n place label rest refs (way_small (place + (length head + bytes_of form)) (labels label)))

-- other instructions

plain_read : (op : Op) (os : List Operand) (place : ℕ) (rest : List ℕ) (refs : List Ref) → is_branch (action_of op) ≡ false → is_call (action_of op) ≡ false
    → are_operands (shape op).operands os ≡ true → AreLater (place + 1 + length (operands_bytes (shape op).operands os)) refs
    → instr_front (front place (opcode op ∷ (operands_bytes (shape op).operands os ++ rest)) (operands_refs (place + 1) (shape op).operands os ++ refs))
    ≡ Some (made op os None, front (place + 1 + length (operands_bytes (shape op).operands os)) rest refs)
plain_read op os place rest refs branch call valid later =
    let kinds = (shape op).operands in
    let bytes = operands_bytes kinds os in
    let own = operands_refs (place + 1) kinds os in
    opened (opcode op) place (bytes ++ rest) (own ++ refs)
    ∙ by_opcode op (front (place + 1) (bytes ++ rest) (own ++ refs))
    ∙ rw (branch, operands_again [] kinds os (place + 1) rest refs valid later, call) refl

call_read : (op : Op) (os : List Operand) (n place q : ℕ) (label rest : List ℕ) (refs : List Ref) → n < 2 ^ 32 → is_branch (action_of op) ≡ false → is_call (action_of op) ≡ true
    → are_operands (shape op).operands os ≡ true → q ≡ place + 1 + length (operands_bytes (shape op).operands os) + 1
    → instr_front (front place (opcode op ∷ (operands_bytes (shape op).operands os ++ (0xef ∷ (field Long n ++ rest))))
    (operands_refs (place + 1) (shape op).operands os ++ (ref q (Some label) 0 ++ refs)))
    ≡ Some (made op os (Some label), front (place + 1 + length (operands_bytes (shape op).operands os) + 1 + 4) rest refs)
call_read op os n place q label rest refs lt branch call valid e =
    let kinds = (shape op).operands in
    let bytes = operands_bytes kinds os in
    let own = operands_refs (place + 1) kinds os in
    let more = 0xef ∷ (field Long n ++ rest) in
    let target = ref q (Some label) 0 ++ refs in
    let p = place + 1 + length bytes in
    opened (opcode op) place (bytes ++ more) (own ++ target)
    ∙ by_opcode op (front (place + 1) (bytes ++ more) (own ++ target))
    ∙ rw (branch, operands_again [] kinds os (place + 1) more target valid (omega (arith, e)), call, byte_again p 0xef (field Long n ++ rest) target)
    (target_again Long op os n (p + 1) q label rest refs lt e)

plain_again : (labels : List ℕ → Option ℕ) (form : Size) (op : Op) (os : List Operand) (place : ℕ) (rest : List ℕ) (refs : List Ref) → is_branch (action_of op) ≡ false
    → is_call (action_of op) ≡ false → are_operands (shape op).operands os ≡ true → AreLater (place + item_length form (item_kind.Instr (made op os None))) refs
    → InstrRead labels form op os None place rest refs
unfolding InstrRead
plain_again labels form op os place rest refs branch call valid =
    let bytes = operands_bytes (shape op).operands os in
    let own = operands_refs (place + 1) (shape op).operands os in
    let long : place + (suc (length bytes) + 0) ≡ place + 1 + length bytes = omega arith in
    rw (branch, call) (λ later.
    ap (λ (b : List ℕ). instr_front (front place (b ++ rest) ((own ++ []) ++ refs))) (append-nil (opcode op ∷ bytes))
    ∙ ap (λ (r : List Ref). instr_front (front place (opcode op ∷ (bytes ++ rest)) (r ++ refs))) (append-nil own)
    ∙ plain_read op os place rest refs branch call valid (subst (λ (p : ℕ). AreLater p refs) long later)
    ∙ moved (made op os None) (place + 1 + length bytes) (place + (suc (length bytes) + 0)) rest refs (sym long))

call_again : (labels : List ℕ → Option ℕ) (form : Size) (op : Op) (os : List Operand) (label : List ℕ) (place : ℕ) (rest : List ℕ) (refs : List Ref) → is_branch (action_of op) ≡ false
    → is_call (action_of op) ≡ true → are_operands (shape op).operands os ≡ true → InstrRead labels form op os (Some label) place rest refs
unfolding InstrRead
call_again labels form op os label place rest refs branch call valid =
    let bytes = operands_bytes (shape op).operands os in
    let own = operands_refs (place + 1) (shape op).operands os in
    let head = opcode op ∷ (bytes ++ 0xef ∷ []) in
    let end = place + (length head + 4) in
    let n = way end (labels label) in
    let q = place + length head in
    let tail = field Long n in
    let count : length head ≡ length bytes + 2 = omega (arith, length-append bytes (0xef ∷ [])) in
    rw (branch, call)
    (ap (λ (b : List ℕ). instr_front (front place b ((own ++ ref q (Some label) 0) ++ refs)))
    (append_assoc head tail rest ∙ ap (λ (b : List ℕ). opcode op ∷ b) (append_assoc bytes (0xef ∷ []) (tail ++ rest)))
    ∙ ap (λ (r : List Ref). instr_front (front place (opcode op ∷ (bytes ++ (0xef ∷ (tail ++ rest)))) r)) (append_assoc own (ref q (Some label) 0) refs)
    ∙ call_read op os n place q label rest refs (way_small end (labels label)) branch call valid (omega (arith, count))
    ∙ moved (made op os (Some label)) (place + 1 + length bytes + 1 + 4) end rest refs (omega (arith, count)))

by_kind : (labels : List ℕ → Option ℕ) (form : Size) (op : Op) (os : List Operand) (target : Option (List ℕ)) (place : ℕ) (rest : List ℕ) (refs : List Ref) (a b : Bool)
    → is_branch (action_of op) ≡ a → is_call (action_of op) ≡ b → are_operands (shape op).operands os ≡ true → is_target (a || b) target ≡ true
    → AreLater (place + item_length form (item_kind.Instr (made op os target))) refs → InstrRead labels form op os target place rest refs
by_kind labels form op os None place rest refs true b ea eb valid t later = absurd (cc)
by_kind labels form op os None place rest refs false true ea eb valid t later = absurd (cc)
by_kind labels form op os None place rest refs false false ea eb valid t later = plain_again labels form op os place rest refs ea eb valid later
by_kind labels form op [] (Some label) place rest refs true b ea eb valid t later = branch_again labels form op label place rest refs ea
by_kind labels form op (o ∷ os) (Some label) place rest refs true b ea eb valid t later = absurd (none (no_kinds op ea) valid)
  where
    none : {kinds : List OperandKind} → kinds ≡ [] → are_operands kinds (o ∷ os) ≡ true → ⊥
    none {kinds = []} e h = cc
    none {kinds = kind ∷ kinds} e h = cc
by_kind labels form op os (Some label) place rest refs false true ea eb valid t later = call_again labels form op os label place rest refs ea eb valid
by_kind labels form op os (Some label) place rest refs false false ea eb valid t later = absurd (cc)

pub instr_again : InstrsAreRead
unfolding InstrRead
instr_again labels form i place rest refs valid later =
    let p = and_parts (are_operands (shape i.op).operands i.operands) (is_target (shape i.op).target i.target) valid in
    by_kind labels form i.op i.operands i.target place rest refs (is_branch (action_of i.op)) (is_call (action_of i.op)) refl refl p.0
    (subst (λ (b : Bool). is_target b i.target ≡ true) (has_target i.op) p.1) later
