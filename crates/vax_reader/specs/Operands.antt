-- Addresses and operands at the front of some bytes, as the reader computes them.
use Rattle.std.specs.Prelude.{ℕ, List, Option, Some, None, codes}
use Rattle.std.specs.Option.{option_and_then, option_map, option_map_or}
use Rattle.vax_core.specs.declared.register.Reg.{Reg}
use Rattle.vax_core.specs.declared.operand.Addr.{Addr}
use Rattle.vax_core.specs.declared.operand.Base.{Base}
use Rattle.vax_core.specs.declared.operand.Base.TheVariants as bases
use Rattle.vax_core.specs.declared.operand.Operand.{Operand}
use Rattle.vax_reader.specs.declared.address.Spelled.{Spelled}
use Rattle.vax_reader.specs.declared.address.Spelled.TheVariants as spelled
use Rattle.vax_reader.specs.Fronts.{strip, signed_front, offset_front, name_front, reg_front, closed, at_front}

-- the address that is spelled
abbrev pub addr_of : Spelled → Addr
addr_of (spelled.Number n) = record { name = None; offset = n }
addr_of (spelled.Label name offset) = record { name = Some name.now; offset = offset }

abbrev pub number_addr : ℕ × List ℕ → Option (Addr × List ℕ)
number_addr x = Some (record { name = None; offset = x.0 }, x.1)

abbrev pub labelled : List ℕ → ℕ × List ℕ → Addr × List ℕ
labelled name x = (record { name = Some name; offset = x.0 }, x.1)

abbrev pub label_addr : List ℕ × List ℕ → Option (Addr × List ℕ)
label_addr x = option_map (labelled x.0) (offset_front x.1)

-- a number, or a name with an offset
unfoldable pub addr_front : List ℕ → Option (Addr × List ℕ)
addr_front bytes = option_map_or number_addr (signed_front bytes) (option_and_then label_addr (name_front bytes))

abbrev pub base_at : (Reg → Base) → Reg × List ℕ → Option (Base × List ℕ)
base_at base x = Some (base x.0, x.1)

-- an address stands alone only where it has a name
abbrev pub alone : Base → Option (List ℕ) → List ℕ → Option (Base × List ℕ)
alone base None rest = None
alone base (Some name) rest = Some (base, rest)

-- behind an address: `(r)` or nothing
abbrev pub near : Addr × List ℕ → Option (Base × List ℕ)
near x = option_map_or (base_at (bases.Disp x.0)) (at_front x.1) (alone (bases.Rel x.0) x.0.name x.1)

abbrev pub far : Addr × List ℕ → Option (Base × List ℕ)
far x = option_map_or (base_at (bases.DispDef x.0)) (at_front x.1) (alone (bases.RelDef x.0) x.0.name x.1)

abbrev pub absolute : ℕ × List ℕ → Option (Base × List ℕ)
absolute x = Some (bases.Abs x.0, x.1)

abbrev pub stepped : Reg × List ℕ → Option (Base × List ℕ)
stepped x = option_map (λ (rest : List ℕ). (bases.IncDef x.0, rest)) (strip (codes "+") x.1)

-- behind `*`
unfoldable pub deferred_front : List ℕ → Option (Base × List ℕ)
deferred_front bytes =
    option_map_or far (addr_front bytes)
    (option_map_or (λ (rest : List ℕ). option_and_then absolute (signed_front rest)) (strip (codes "$") bytes)
    (option_and_then stepped (at_front bytes)))

abbrev pub immediate : Addr × List ℕ → Option (Base × List ℕ)
immediate x = Some (bases.Imm x.0, x.1)

-- `(r)`, and `+` behind it or not
abbrev pub at_or_stepped : Reg × List ℕ → Option (Base × List ℕ)
at_or_stepped x = option_map_or (λ (rest : List ℕ). Some (bases.Inc x.0, rest)) (strip (codes "+") x.1) (Some (bases.Def x.0, x.1))

-- a base that begins with no address and no `*`
unfoldable pub plain_front : List ℕ → Option (Base × List ℕ)
plain_front bytes =
    option_map_or (λ (rest : List ℕ). option_and_then immediate (addr_front rest)) (strip (codes "$") bytes)
    (option_map_or (λ (rest : List ℕ). option_and_then (base_at bases.Dec) (at_front rest)) (strip (codes "-") bytes)
    (option_map_or at_or_stepped (at_front bytes)
    (option_and_then (base_at bases.Reg) (reg_front bytes))))

-- an operand without its index
unfoldable pub base_front : List ℕ → Option (Base × List ℕ)
base_front bytes = option_map_or near (addr_front bytes) (option_map_or deferred_front (strip (codes "*") bytes) (plain_front bytes))

abbrev pub some_index : Reg × List ℕ → Option (Option Reg × List ℕ)
some_index x = Some (Some x.0, x.1)

-- an index, which may be missing
unfoldable pub index_front : List ℕ → Option (Option Reg × List ℕ)
index_front bytes =
    option_map_or (λ (inner : List ℕ). option_and_then some_index (option_and_then (closed (codes "]")) (reg_front inner)))
    (strip (codes "[") bytes) (Some (None, bytes))

abbrev pub with_index : Base → Option Reg × List ℕ → Operand × List ℕ
with_index base x = (record { base = base; index = x.0 }, x.1)

abbrev pub indexed : Base × List ℕ → Option (Operand × List ℕ)
indexed x = option_map (with_index x.0) (index_front x.1)

-- an operand
unfoldable pub operand_front : List ℕ → Option (Operand × List ℕ)
operand_front bytes = option_and_then indexed (base_front bytes)
