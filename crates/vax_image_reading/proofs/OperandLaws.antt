-- Each spelling of an operand is found.
use Rattle.std.proofs.Common.{◌≡◌, ℕ, ◌+◌, true, List, ◌∷◌, ◌++◌, length, Option, Some, None, refl, sym, ap, subst, ◌∙◌, arith}
use Rattle.std.specs.Option.{option_and_then}
use Rattle.gg_base.specs.declared.size.Size.{Size}
use Rattle.gg_base.specs.declared.size.Size.TheVariants.{Byte}
use Rattle.vax_core.specs.declared.register.Reg.{Reg}
use Rattle.vax_core.specs.declared.operand.Base.{Base}
use Rattle.vax_core.specs.Valid.{is_base}
use Rattle.vax_image_format.specs.declared.field.Ref.{Ref}
use Rattle.vax_image_format.specs.Specifiers.{mode, index_bytes, base_bytes, base_refs}
use Rattle.vax_image_reading.specs.Fronts.{front, field_front}
use Rattle.vax_image_reading.specs.Operands.{first_byte, operand_front}
use Rattle.vax_image_reading.specs.Taken.{AreLater, OperandsAreRead}
use Rattle.vax_image_reading.proofs.FieldLaws.{byte_again}
use Rattle.vax_image_reading.proofs.ModeLaws.{mode_again}
use Rattle.vax_image_reading.proofs.BaseLaws.{IsRead, base_again}

-- a base is read behind its first byte
read_on : (size : Size) (index : Option Reg) (bytes : List ℕ) (own : List Ref) (base : Base) (place : ℕ) (rest : List ℕ) (refs : List Ref) (h : IsRead size bytes own base place rest refs)
    → field_front Byte (front place (bytes ++ rest) (own ++ refs)) ≡ Some (h.first, front (place + 1) (h.tail ++ rest) (own ++ refs))
read_on size index bytes own base place rest refs h =
    ap (λ (b : List ℕ). field_front Byte (front place (b ++ rest) (own ++ refs))) h.is ∙ byte_again place h.first (h.tail ++ rest) (own ++ refs)

pub operand_of : (size : Size) (index : Option Reg) (base : Base) (place : ℕ) (rest : List ℕ) (refs : List Ref) → is_base base ≡ true
    → AreLater (place + length (index_bytes index ++ base_bytes size base)) refs
    → operand_front size (front place ((index_bytes index ++ base_bytes size base) ++ rest) (base_refs (place + length (index_bytes index)) size base ++ refs))
    ≡ Some (record { base = base; index = index }, front (place + length (index_bytes index ++ base_bytes size base)) rest refs)
unfolding operand_front
operand_of size None base place rest refs valid later =
    let none : place + 0 ≡ place = omega arith in
    let h = base_again size base place rest refs valid later in
    ap (λ (p : ℕ). option_and_then (first_byte size) (field_front Byte (front place (base_bytes size base ++ rest) (base_refs p size base ++ refs)))) none
    ∙ rw (read_on size None (base_bytes size base) (base_refs place size base) base place rest refs h, h.unindexed, h.read) refl
operand_of size (Some x) base place rest refs valid later =
    let parts = mode_again 4 x in
    let one : place + length (mode 4 x ∷ base_bytes size base) ≡ place + 1 + length (base_bytes size base) = omega arith in
    let h = base_again size base (place + 1) rest refs valid (subst (λ (p : ℕ). AreLater p refs) one later) in
    let own = base_refs (place + 1) size base in
    rw (
      byte_again place (mode 4 x) (base_bytes size base ++ rest) (own ++ refs),
      parts.0,
      parts.1,
      read_on size (Some x) (base_bytes size base) own base (place + 1) rest refs h,
      h.read,
    ) (ap (λ (p : ℕ). Some (record { base = base; index = Some x }, front p rest refs)) (sym one))

pub operand_again : OperandsAreRead
operand_again size o place rest refs valid later = operand_of size o.index o.base place rest refs valid later
