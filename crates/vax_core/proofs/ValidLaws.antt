-- Operands beside their kinds, and addresses with a name.
use Rattle.std.proofs.Common.{◌≡◌, ◌≢◌, ℕ, Bool, true, false, ◌&&◌, List, [], ◌∷◌, length, refl, ap, arith, Option, Some, None}
use Rattle.std.specs.List.{list_all, zip}
use Rattle.gg_base.proofs.Facts.{and_false}
use Rattle.vax_core.specs.declared.op.OperandKind.{OperandKind}
use Rattle.vax_core.specs.declared.operand.Operand.{Operand}
use Rattle.vax_core.specs.Valid.{is_operand, are_operands, is_addr_of, is_named_addr}

-- kinds and operands, pair by pair
abbrev pub of_kind : OperandKind × Operand → Bool
of_kind p = is_operand p.0 p.1

pub each_of_kind : (kinds : List OperandKind) (os : List Operand) → length kinds ≡ length os → list_all of_kind (zip kinds os) ≡ are_operands kinds os
each_of_kind [] [] e = refl
each_of_kind [] (o ∷ os) e = absurd (omega (arith, e))
each_of_kind (kind ∷ kinds) [] e = absurd (omega (arith, e))
each_of_kind (kind ∷ kinds) (o ∷ os) e = ap (λ (b : Bool). is_operand kind o && b) (each_of_kind kinds os (omega (arith, e)))

pub other_count : (kinds : List OperandKind) (os : List Operand) → length kinds ≢ length os → are_operands kinds os ≡ false
other_count [] [] ne = absurd (ne refl)
other_count [] (o ∷ os) ne = refl
other_count (kind ∷ kinds) [] ne = refl
other_count (kind ∷ kinds) (o ∷ os) ne = rw (other_count kinds os (λ e. ne (omega (arith, e)))) (and_false (is_operand kind o))

-- an address that has a name is an address
pub named_is_addr : (n : Option (List ℕ)) (offset : ℕ) → is_named_addr n offset ≡ true → is_addr_of n offset ≡ true
named_is_addr None offset e = absurd (cc)
named_is_addr (Some name) offset e = e
