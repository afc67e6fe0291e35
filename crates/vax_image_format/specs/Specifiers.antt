-- The bytes of an operand in a text section, and the refs to its fields.
use Rattle.std.specs.Prelude.{ℕ, ◌+◌, ◌*◌, ◌%◌, ◌^◌, ◌==◌, nat_lt, List, [], ◌∷◌, ◌++◌, length, Option, Some, None, if◌then◌else◌}
use Rattle.std.specs.Int.{w16, w32, to_le_bytes}
use Rattle.gg_base.specs.declared.size.Size.{Size}
use Rattle.gg_base.specs.declared.size.Size.TheVariants.{Byte, Word, Long}
use Rattle.gg_base.specs.Sizes.{low}
use Rattle.gg_base.specs.Arithmetic.{sext8, sext16}
use Rattle.vax_core.specs.declared.register.Reg.{Reg}
use Rattle.vax_core.specs.declared.operand.Base.{Base}
use Rattle.vax_core.specs.declared.operand.Base.TheVariants as bases
use Rattle.vax_core.specs.declared.operand.Operand.{Operand}
use Rattle.vax_core.specs.Registers.{reg_number}
use Rattle.vax_image_format.specs.declared.field.Ref.{Ref}

-- the low bytes of a number in a field of a size, the lowest first
abbrev pub field : Size → ℕ → List ℕ
field Byte n = (n % 2 ^ 8) ∷ []
field Word n = to_le_bytes w16 (n % 2 ^ 16)
field Long n = to_le_bytes w32 n

-- a named field holds zeros
abbrev pub addr_field : Size → Option (List ℕ) → ℕ → List ℕ
addr_field size None n = field size n
addr_field size (Some name) n = field size 0

abbrev pub ref : ℕ → Option (List ℕ) → ℕ → List Ref
ref place name offset = record { place = place; addr = record { name = name; offset = offset } } ∷ []

-- and has a ref
abbrev pub addr_refs : ℕ → Option (List ℕ) → ℕ → List Ref
addr_refs place None offset = []
addr_refs place (Some name) offset = ref place (Some name) offset

-- the first byte of a specifier: a mode from 0 to 15, and a register
abbrev pub mode : ℕ → Reg → ℕ
mode m r = 0x10 * m + reg_number r

-- an immediate: a number below 64 is its own byte; else a field of the operand's size
abbrev pub imm_bytes : Size → Option (List ℕ) → ℕ → List ℕ
imm_bytes size None n = if nat_lt n 64 then n ∷ [] else 0x8f ∷ field size n
imm_bytes size (Some name) n = 0x8f ∷ field size 0

-- a number that its field can't hold has a ref without name
abbrev pub imm_refs : ℕ → Size → Option (List ℕ) → ℕ → List Ref
imm_refs at size None n = if nat_lt n 64 then [] else if low size n == n then [] else ref (at + 1) None n
imm_refs at size (Some name) n = ref (at + 1) (Some name) n

-- the shortest field from which a displacement comes back with its sign; one with a name has 4 bytes
abbrev pub disp_size : Option (List ℕ) → ℕ → Size
disp_size None d = if sext8 d == d then Byte else if sext16 d == d then Word else Long
disp_size (Some name) d = Long

-- the modes of displacements of these sizes; those of the deferred ones are one more
abbrev pub disp_mode : Size → ℕ
disp_mode Byte = 0xa
disp_mode Word = 0xc
disp_mode Long = 0xe

abbrev pub disp_bytes : ℕ → Option (List ℕ) → ℕ → Reg → List ℕ
disp_bytes deferred name d r = mode (disp_mode (disp_size name d) + deferred) r ∷ addr_field (disp_size name d) name d

abbrev pub base_bytes : Size → Base → List ℕ
base_bytes size (bases.Imm a) = imm_bytes size a.name a.offset
base_bytes size (bases.Reg r) = mode 5 r ∷ []
base_bytes size (bases.Def r) = mode 6 r ∷ []
base_bytes size (bases.Dec r) = mode 7 r ∷ []
base_bytes size (bases.Inc r) = mode 8 r ∷ []
base_bytes size (bases.IncDef r) = mode 9 r ∷ []
base_bytes size (bases.Abs n) = 0x9f ∷ field Long n
base_bytes size (bases.Disp a r) = disp_bytes 0 a.name a.offset r
base_bytes size (bases.DispDef a r) = disp_bytes 1 a.name a.offset r
base_bytes size (bases.Rel a) = 0xef ∷ addr_field Long a.name a.offset
base_bytes size (bases.RelDef a) = 0xff ∷ addr_field Long a.name a.offset

-- of a specifier at a place
abbrev pub base_refs : ℕ → Size → Base → List Ref
base_refs at size (bases.Imm a) = imm_refs at size a.name a.offset
base_refs at size (bases.Disp a r) = addr_refs (at + 1) a.name a.offset
base_refs at size (bases.DispDef a r) = addr_refs (at + 1) a.name a.offset
base_refs at size (bases.Rel a) = addr_refs (at + 1) a.name a.offset
base_refs at size (bases.RelDef a) = addr_refs (at + 1) a.name a.offset
base_refs at size b = []

-- an index stands in front
abbrev pub index_bytes : Option Reg → List ℕ
index_bytes None = []
index_bytes (Some x) = mode 4 x ∷ []

abbrev pub operand_bytes : Size → Operand → List ℕ
operand_bytes size o = index_bytes o.index ++ base_bytes size o.base

abbrev pub operand_refs : ℕ → Size → Operand → List Ref
operand_refs at size o = base_refs (at + length (index_bytes o.index)) size o.base
