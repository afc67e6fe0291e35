-- What stands before an instruction's target, and the target behind it.
use Rattle.std.proofs.Common.{◌≡◌, ℕ, ◌+◌, ◌*◌, ◌≤◌, Bool, true, false, cond, List, [], ◌∷◌, ◌++◌, length, Option, Some, None, refl, sym, ap, ◌∙◌, arith, append_assoc, length-append}
use Rattle.std.proofs.lemmas.List.{append-nil}
use Rattle.gg_base.specs.declared.size.Size.{Size}
use Rattle.gg_base.specs.declared.size.Size.TheVariants.{Byte, Word, Long}
use Rattle.gg_base.specs.Sizes.{bytes_of}
use Rattle.vax_core.specs.declared.op.Op.{Op}
use Rattle.vax_core.specs.declared.op.OperandKind.{OperandKind}
use Rattle.vax_core.specs.declared.operand.Operand.{Operand}
use Rattle.vax_core.specs.declared.code.Instr.{Instr}
use Rattle.vax_core.specs.declared.code.CodeItem.TheVariants as item_kind
use Rattle.vax_core.specs.Ops.{shape}
use Rattle.vax_core.proofs.ShapeLaws.{few_operands}
use Rattle.vax_machine.specs.Functions.{action_of}
use Rattle.vax_machine.specs.Labels.{is_call}
use Rattle.vax_image_format.specs.declared.field.Ref.{Ref}
use Rattle.vax_image_format.specs.Opcodes.{is_branch, is_conditional}
use Rattle.vax_image_format.specs.Specifiers.{field, ref, operand_bytes}
use Rattle.vax_image_format.specs.Instructions.{operands_bytes, operands_refs, before_field, way, plain_bytes, head_bytes, target_size, target_ref, tail_bytes, target_length, item_bytes, item_refs}
use Rattle.vax_image_format.proofs.OpLaws.{no_kinds}
use Rattle.vax_image_format.proofs.PlaceLaws.{operand_short}
use Rattle.vax_image_writing.specs.declared.section.Section.{Section}
use Rattle.vax_image_writing.specs.Written.{IsPut}

-- bytes and refs that are the same
pub put_same : (a b : Section) (xs ys : List ℕ) (rs ss : List Ref) → xs ≡ ys → rs ≡ ss → IsPut a b xs rs → IsPut a b ys ss
put_same a b xs ys rs ss e d h = record { bytes_are = h.bytes_are ∙ ap (λ (t : List ℕ). a.bytes.items ++ t) e; refs_are = h.refs_are ∙ ap (λ (t : List Ref). a.refs.items ++ t) d }

-- bytes without refs behind others
pub put_more : (a b c : Section) (xs ys : List ℕ) (rs : List Ref) → IsPut a b xs rs → IsPut b c ys [] → IsPut a c (xs ++ ys) rs
put_more a b c xs ys rs h g = record {
  bytes_are = g.bytes_are ∙ ap (λ (t : List ℕ). t ++ ys) h.bytes_are ∙ append_assoc a.bytes.items xs ys;
  refs_are = g.refs_are ∙ append-nil b.refs.items ∙ h.refs_are;
}

pub head_branch : (a b : Section) (form : Size) (i : Instr) (place : ℕ) → is_branch (action_of i.op) ≡ true
    → IsPut a b (before_field form (is_conditional (action_of i.op)) i.op) [] → IsPut a b (head_bytes form i) (operands_refs place (shape i.op).operands i.operands)
head_branch a b form i place branch h =
    put_same a b (before_field form (is_conditional (action_of i.op)) i.op) (head_bytes form i) [] (operands_refs place (shape i.op).operands i.operands) (rw branch refl)
    (sym (ap (λ (kinds : List OperandKind). operands_refs place kinds i.operands) (no_kinds i.op branch))) h

pub head_call : (a b c : Section) (form : Size) (i : Instr) (own : List Ref) → is_branch (action_of i.op) ≡ false → is_call (action_of i.op) ≡ true
    → IsPut a b (plain_bytes i) own → IsPut b c (0xef ∷ []) [] → IsPut a c (head_bytes form i) own
head_call a b c form i own branch call h g =
    put_same a c (plain_bytes i ++ 0xef ∷ []) (head_bytes form i) own own (rw (branch, call) refl) refl (put_more a b c (plain_bytes i) (0xef ∷ []) own h g)

pub head_plain : (a b : Section) (form : Size) (i : Instr) (own : List Ref) → is_branch (action_of i.op) ≡ false → is_call (action_of i.op) ≡ false
    → IsPut a b (plain_bytes i) own → IsPut a b (head_bytes form i) own
head_plain a b form i own branch call h = put_same a b (plain_bytes i) (head_bytes form i) own own (rw (branch, call) refl) refl h

-- an instruction without a target
untargeted : (a b : Section) (form : Size) (i : Instr) (to : Option ℕ) (name : Option (List ℕ)) → name ≡ None
    → (head_bytes form i ++ tail_bytes (λ label. to) (length a.bytes.items + (length (head_bytes form i) + target_length form i name)) (target_size form i) name ≡ head_bytes form i)
untargeted a b form i to name e =
    ap (λ (n : Option (List ℕ)). head_bytes form i ++ tail_bytes (λ label. to) (length a.bytes.items + (length (head_bytes form i) + target_length form i n)) (target_size form i) n) e
    ∙ append-nil (head_bytes form i)

pub instr_plain : (a b : Section) (form : Size) (i : Instr) (to : Option ℕ) → i.target ≡ None
    → IsPut a b (head_bytes form i) (operands_refs (length a.bytes.items + 1) (shape i.op).operands i.operands)
    → IsPut a b (item_bytes (λ label. to) (length a.bytes.items) form (item_kind.Instr i)) (item_refs (length a.bytes.items) form (item_kind.Instr i))
instr_plain a b form i to e h =
    let own = operands_refs (length a.bytes.items + 1) (shape i.op).operands i.operands in
    put_same a b (head_bytes form i) (item_bytes (λ label. to) (length a.bytes.items) form (item_kind.Instr i)) own (item_refs (length a.bytes.items) form (item_kind.Instr i))
    (sym (untargeted a b form i to i.target e))
    (sym (ap (λ (n : Option (List ℕ)). own ++ target_ref (length a.bytes.items + length (head_bytes form i)) n) e ∙ append-nil own)) h

-- an instruction with one, whose field ends behind its head and the field's bytes
pub instr_target : (a b c : Section) (form : Size) (i : Instr) (to : Option ℕ) (label : List ℕ) (n : ℕ) → i.target ≡ Some label
    → IsPut a b (head_bytes form i) (operands_refs (length a.bytes.items + 1) (shape i.op).operands i.operands)
    → n ≡ way (length b.bytes.items + bytes_of (target_size form i)) to
    → IsPut b c (field (target_size form i) n) (ref (length b.bytes.items) (Some label) 0)
    → IsPut a c (item_bytes (λ label. to) (length a.bytes.items) form (item_kind.Instr i)) (item_refs (length a.bytes.items) form (item_kind.Instr i))
instr_target a b c form i to label n e h is g =
    let at = length a.bytes.items in
    let head = head_bytes form i in
    let size = target_size form i in
    let own = operands_refs (at + 1) (shape i.op).operands i.operands in
    let long : length b.bytes.items ≡ at + length head = ap length h.bytes_are ∙ length-append a.bytes.items head in
    let end : length b.bytes.items + bytes_of size ≡ at + (length head + bytes_of size) = omega (arith, long) in
    let number : n ≡ way (at + (length head + bytes_of size)) to = is ∙ ap (λ (x : ℕ). way x to) end in
    let bytes : head ++ field size n ≡ item_bytes (λ label. to) at form (item_kind.Instr i) =
    ap (λ (x : ℕ). head ++ field size x) number
    ∙ sym (ap (λ (t : Option (List ℕ)). head ++ tail_bytes (λ label. to) (at + (length head + target_length form i t)) size t) e) in
    let refs : own ++ ref (length b.bytes.items) (Some label) 0 ≡ item_refs at form (item_kind.Instr i) =
    ap (λ (p : ℕ). own ++ ref p (Some label) 0) long ∙ sym (ap (λ (t : Option (List ℕ)). own ++ target_ref (at + length head) t) e) in
    record {
      bytes_are = g.bytes_are ∙ ap (λ (t : List ℕ). t ++ field size n) h.bytes_are ∙ append_assoc a.bytes.items head (field size n) ∙ ap (λ (t : List ℕ). a.bytes.items ++ t) bytes;
      refs_are = g.refs_are ∙ ap (λ (t : List Ref). t ++ ref (length b.bytes.items) (Some label) 0) h.refs_are
          ∙ append_assoc a.refs.items own (ref (length b.bytes.items) (Some label) 0) ∙ ap (λ (t : List Ref). a.refs.items ++ t) refs;
    }

pub ruleset head_facts = (head_branch, head_call, head_plain)

-- a head is short

operands_short : (kinds : List OperandKind) (os : List Operand) → length (operands_bytes kinds os) ≤ 6 * length kinds
operands_short [] os = omega arith
operands_short (kind ∷ kinds) [] = omega arith
operands_short (kind ∷ kinds) (o ∷ os) =
    omega (arith, length-append (operand_bytes kind.size o) (operands_bytes kinds os), operand_short kind.size o, operands_short kinds os)

before_short : (form : Size) (conditional : Bool) (op : Op) → length (before_field form conditional op) ≤ 4
before_short Byte conditional op = omega arith
before_short Word false op = omega arith
before_short Word true op = omega arith
before_short Long false op = omega arith
before_short Long true op = omega arith

head_short : (form : Size) (i : Instr) → length (head_bytes form i) ≤ 20
head_short form i = by (is_branch (action_of i.op)) (is_call (action_of i.op))
  where
    by : (a b : Bool) → length (cond a (before_field form (is_conditional (action_of i.op)) i.op) (cond b (plain_bytes i ++ 0xef ∷ []) (plain_bytes i))) ≤ 20
    by true b = omega (arith, before_short form (is_conditional (action_of i.op)) i.op)
    by false true = omega (arith, length-append (plain_bytes i) (0xef ∷ []), operands_short (shape i.op).operands i.operands, few_operands i.op)
    by false false = omega (arith, operands_short (shape i.op).operands i.operands, few_operands i.op)

pub room_behind : (a b : Section) (form : Size) (i : Instr) (refs : List Ref) → IsPut a b (head_bytes form i) refs → length b.bytes.items ≤ length a.bytes.items + 20
room_behind a b form i refs h = omega (arith, ap length h.bytes_are, length-append a.bytes.items (head_bytes form i), head_short form i)

pub ruleset instr_facts = (instr_plain, instr_target, room_behind)
