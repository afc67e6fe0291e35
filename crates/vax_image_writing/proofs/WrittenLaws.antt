-- What is written in two steps.
use Rattle.std.proofs.Common.{◌≡◌, ℕ, ◌+◌, ◌*◌, ◌≤◌, List, [], ◌∷◌, ◌++◌, length, Option, refl, sym, ap, subst, ◌∙◌, arith, append_assoc, length-append}
use Rattle.std.proofs.lemmas.List.{append-nil}
use Rattle.gg_base.specs.declared.size.Size.{Size}
use Rattle.vax_core.specs.declared.operand.Base.{Base}
use Rattle.vax_core.specs.declared.operand.Operand.{Operand}
use Rattle.vax_core.specs.declared.op.OperandKind.{OperandKind}
use Rattle.vax_image_format.specs.Specifiers.{operand_bytes, operand_refs}
use Rattle.vax_image_format.specs.declared.field.Ref.{Ref}
use Rattle.vax_image_writing.specs.declared.section.Section.{Section}
use Rattle.vax_image_format.specs.Specifiers.{ref, addr_refs, base_bytes, base_refs}
use Rattle.vax_image_format.specs.Instructions.{operands_bytes, operands_refs}
use Rattle.vax_image_writing.specs.Written.{IsPut}
use Rattle.vax_image_format.proofs.PlaceLaws.{operand_short}

pub put_behind : (a b c : Section) (x : ℕ) (ys : List ℕ) (rs : List Ref) → IsPut a b (x ∷ []) [] → IsPut b c ys rs → IsPut a c (x ∷ ys) rs
put_behind a b c x ys rs h g = record {
  bytes_are = g.bytes_are ∙ ap (λ (t : List ℕ). t ++ ys) h.bytes_are ∙ append_assoc a.bytes.items (x ∷ []) ys;
  refs_are = g.refs_are ∙ ap (λ (t : List Ref). t ++ rs) (h.refs_are ∙ append-nil a.refs.items);
}

-- one byte further
further : (a b : Section) (x : ℕ) → IsPut a b (x ∷ []) [] → length b.bytes.items ≡ length a.bytes.items + 1
further a b x h = ap length h.bytes_are ∙ length-append a.bytes.items (x ∷ [])

pub held_behind : (a b c : Section) (x : ℕ) (ys : List ℕ) (name : Option (List ℕ)) (n : ℕ) → IsPut a b (x ∷ []) [] → IsPut b c ys (ref (length b.bytes.items) name n)
    → IsPut a c (x ∷ ys) (ref (length a.bytes.items + 1) name n)
held_behind a b c x ys name n h g = put_behind a b c x ys (ref (length a.bytes.items + 1) name n) h (subst (λ (p : ℕ). IsPut b c ys (ref p name n)) (further a b x h) g)

pub addr_behind : (a b c : Section) (x : ℕ) (ys : List ℕ) (name : Option (List ℕ)) (n : ℕ) → IsPut a b (x ∷ []) [] → IsPut b c ys (addr_refs (length b.bytes.items) name n)
    → IsPut a c (x ∷ ys) (addr_refs (length a.bytes.items + 1) name n)
addr_behind a b c x ys name n h g =
    put_behind a b c x ys (addr_refs (length a.bytes.items + 1) name n) h (subst (λ (p : ℕ). IsPut b c ys (addr_refs p name n)) (further a b x h) g)

pub base_behind_index : (a b c : Section) (x : ℕ) (size : Size) (base : Base) → IsPut a b (x ∷ []) [] → IsPut b c (base_bytes size base) (base_refs (length b.bytes.items) size base)
    → IsPut a c (x ∷ base_bytes size base) (base_refs (length a.bytes.items + 1) size base)
base_behind_index a b c x size base h g =
    put_behind a b c x (base_bytes size base) (base_refs (length a.bytes.items + 1) size base) h
    (subst (λ (p : ℕ). IsPut b c (base_bytes size base) (base_refs p size base)) (further a b x h) g)

-- what was written and what is left to write are the whole
pub record Leaves (a : Section) (kinds : List OperandKind) (os : List Operand) (b : Section) (left : List OperandKind) (rest : List Operand) : Type 0 where
  pub bytes : b.bytes.items ++ operands_bytes left rest ≡ a.bytes.items ++ operands_bytes kinds os
  pub refs : b.refs.items ++ operands_refs (length b.bytes.items) left rest ≡ a.refs.items ++ operands_refs (length a.bytes.items) kinds os
  pub room : length b.bytes.items + 6 * length left ≤ length a.bytes.items + 6 * length kinds

pub leaves_all : (a : Section) (kinds : List OperandKind) (os : List Operand) → Leaves a kinds os a kinds os
leaves_all a kinds os = record { bytes = refl; refs = refl; room = omega arith }

pub leaves_on : (a b c : Section) (kinds left : List OperandKind) (os rest : List Operand) (kind : OperandKind) (o : Operand) → Leaves a kinds os b (kind ∷ left) (o ∷ rest)
    → IsPut b c (operand_bytes kind.size o) (operand_refs (length b.bytes.items) kind.size o) → Leaves a kinds os c left rest
leaves_on a b c kinds left os rest kind o h put =
    let one = operand_bytes kind.size o in
    let own = operand_refs (length b.bytes.items) kind.size o in
    let more = operands_bytes left rest in
    let long : length c.bytes.items ≡ length b.bytes.items + length one = ap length put.bytes_are ∙ length-append b.bytes.items one in
    record {
      bytes = ap (λ (t : List ℕ). t ++ more) put.bytes_are ∙ append_assoc b.bytes.items one more ∙ h.bytes;
      refs = ap (λ (t : List Ref). t ++ operands_refs (length c.bytes.items) left rest) put.refs_are
          ∙ append_assoc b.refs.items own (operands_refs (length c.bytes.items) left rest)
          ∙ ap (λ (p : ℕ). b.refs.items ++ (own ++ operands_refs p left rest)) long
          ∙ h.refs;
      room = omega (arith, h.room, long, operand_short kind.size o);
    }

pub leaves_none : (a b : Section) (kinds : List OperandKind) (os rest : List Operand) → Leaves a kinds os b [] rest
    → IsPut a b (operands_bytes kinds os) (operands_refs (length a.bytes.items) kinds os)
leaves_none a b kinds os rest h = record { bytes_are = sym (append-nil b.bytes.items) ∙ h.bytes; refs_are = sym (append-nil b.refs.items) ∙ h.refs }

pub leaves_short : (a b : Section) (kinds left : List OperandKind) (os : List Operand) (kind : OperandKind) → Leaves a kinds os b (kind ∷ left) []
    → IsPut a b (operands_bytes kinds os) (operands_refs (length a.bytes.items) kinds os)
leaves_short a b kinds left os kind h = record { bytes_are = sym (append-nil b.bytes.items) ∙ h.bytes; refs_are = sym (append-nil b.refs.items) ∙ h.refs }

-- an opcode, and the operands behind it
pub operands_behind : (a b c : Section) (x : ℕ) (kinds : List OperandKind) (os : List Operand) → IsPut a b (x ∷ []) []
    → IsPut b c (operands_bytes kinds os) (operands_refs (length b.bytes.items) kinds os)
    → IsPut a c (x ∷ operands_bytes kinds os) (operands_refs (length a.bytes.items + 1) kinds os)
operands_behind a b c x kinds os h g =
    put_behind a b c x (operands_bytes kinds os) (operands_refs (length a.bytes.items + 1) kinds os) h
    (subst (λ (p : ℕ). IsPut b c (operands_bytes kinds os) (operands_refs p kinds os)) (further a b x h) g)
