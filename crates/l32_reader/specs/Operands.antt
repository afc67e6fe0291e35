-- Registers and operands at the front of some bytes, as the reader computes them.
use Rattle.std.specs.Prelude.{ℕ, List, Option, Some, None, codes}
use Rattle.std.specs.Option.{option_and_then, option_map, option_map_or}
use Rattle.vax_core.specs.declared.operand.Addr.{Addr}
use Rattle.vax_reader.specs.Fronts.{strip, up_to, signed_front, closed}
use Rattle.vax_reader.specs.Operands.{addr_front}
use Rattle.l32_core.specs.declared.operand.Base32.{Base32}
use Rattle.l32_core.specs.declared.operand.Base32.TheVariants as bases
use Rattle.l32_core.specs.declared.operand.Operand32.{Operand32}
use Rattle.l32_core.specs.declared.operand.Operand32.TheVariants as operands
use Rattle.l32_reader.specs.declared.address.Spelled.{Spelled}
use Rattle.l32_reader.specs.declared.address.Spelled.TheVariants as spelled

-- the address that is spelled
abbrev pub addr_of : Spelled → Addr
addr_of (spelled.Number n) = record { name = None; offset = n }
addr_of (spelled.Label name offset) = record { name = Some name.now; offset = offset }

-- the number of a general register
abbrev pub reg_front : List ℕ → Option (ℕ × List ℕ)
reg_front bytes = up_to 11 bytes

abbrev pub general_base : ℕ × List ℕ → Base32 × List ℕ
general_base x = (bases.A x.0, x.1)

abbrev pub found_base : Base32 → List ℕ → Option (Base32 × List ℕ)
found_base b rest = Some (b, rest)

-- the register that a displacement counts from
unfoldable pub base_front : List ℕ → Option (Base32 × List ℕ)
base_front bytes =
    option_map_or (λ (rest : List ℕ). option_map general_base (reg_front rest)) (strip (codes "a") bytes)
    (option_map_or (found_base bases.Fp) (strip (codes "fp") bytes)
    (option_and_then (found_base bases.Sp) (strip (codes "sp") bytes)))

-- `(r)`
unfoldable pub at_front : List ℕ → Option (Base32 × List ℕ)
at_front bytes = option_and_then (λ (inner : List ℕ). option_and_then (closed (codes ")")) (base_front inner)) (strip (codes "(") bytes)

-- an operand of a displacement and its register
abbrev pub displaced : (ℕ → Base32 → Operand32) → ℕ × List ℕ → Option (Operand32 × List ℕ)
displaced operand x = option_map (λ (r : Base32 × List ℕ). (operand x.0 r.0, r.1)) (at_front x.1)

-- behind `@`
unfoldable pub deferred_front : List ℕ → Option (Operand32 × List ℕ)
deferred_front bytes = option_and_then (displaced operands.Deferred) (signed_front bytes)

-- a number is a displacement, a label stands alone
abbrev pub near_by : Option (List ℕ) → Addr × List ℕ → Option (Operand32 × List ℕ)
near_by None x = displaced operands.At (x.0.offset, x.1)
near_by (Some name) x = Some (operands.Addr x.0, x.1)

abbrev pub near : Addr × List ℕ → Option (Operand32 × List ℕ)
near x = near_by x.0.name x

unfoldable pub memory_front : List ℕ → Option (Operand32 × List ℕ)
memory_front bytes = option_and_then near (addr_front bytes)

abbrev pub number_operand : ℕ × List ℕ → Operand32 × List ℕ
number_operand x = (operands.Num x.0, x.1)

abbrev pub register_operand : ℕ × List ℕ → Operand32 × List ℕ
register_operand x = (operands.Reg x.0, x.1)

-- an operand
unfoldable pub operand_front : List ℕ → Option (Operand32 × List ℕ)
operand_front bytes =
    option_map_or (λ (rest : List ℕ). option_map number_operand (signed_front rest)) (strip (codes "$") bytes)
    (option_map_or (λ (rest : List ℕ). option_map register_operand (reg_front rest)) (strip (codes "a") bytes)
    (option_map_or deferred_front (strip (codes "@") bytes)
    (memory_front bytes)))
