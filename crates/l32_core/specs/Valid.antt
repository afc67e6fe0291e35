-- The codes that an assembly text can be written of.
use Rattle.std.specs.Prelude.{ℕ, Bool, true, false, ◌&&◌, ◌||◌, nat_le, nat_lt, List, [], ◌∷◌, Option, Some, None}
use Rattle.std.specs.List.{list_all}
use Rattle.gg_base.specs.declared.limits.TheConstants.{NEED_LIMIT}
use Rattle.vax_core.specs.Valid.{is_name, is_long, is_named_addr, is_area_item}
use Rattle.l32_core.specs.declared.op.Role.{Role}
use Rattle.l32_core.specs.declared.op.Role.TheVariants as roles
use Rattle.l32_core.specs.declared.op.Part.{Part}
use Rattle.l32_core.specs.declared.op.Part.TheVariants as parts
use Rattle.l32_core.specs.declared.operand.Base32.{Base32}
use Rattle.l32_core.specs.declared.operand.Base32.TheVariants as bases
use Rattle.l32_core.specs.declared.operand.Operand32.{Operand32}
use Rattle.l32_core.specs.declared.operand.Operand32.TheVariants as operands
use Rattle.l32_core.specs.declared.code.Instr32.{Instr32}
use Rattle.l32_core.specs.declared.code.Item32.{Item32}
use Rattle.l32_core.specs.declared.code.Item32.TheVariants as item_kind
use Rattle.l32_core.specs.declared.code.Code32.{Code32}
use Rattle.l32_core.specs.Ops.{shape}

-- a0 to a11
abbrev pub is_reg : ℕ → Bool
is_reg n = nat_lt n 12

abbrev pub is_base : Base32 → Bool
is_base (bases.A n) = is_reg n
is_base bases.Fp = true
is_base bases.Sp = true

-- a register
abbrev pub is_register : Operand32 → Bool
is_register (operands.Reg n) = is_reg n
is_register o = false

-- memory: a displacement is of 32 bits, a label's offset can be written
abbrev pub is_memory : Operand32 → Bool
is_memory (operands.At n b) = is_long n && is_base b
is_memory (operands.Deferred n b) = is_long n && is_base b
is_memory (operands.Addr a) = is_named_addr a.name a.offset
is_memory o = false

-- a number up to a limit
abbrev pub is_number : ℕ → Operand32 → Bool
is_number limit (operands.Num n) = nat_le n limit
is_number limit o = false

-- which operands may stand where an instruction does this with them
abbrev pub suits : Role → Operand32 → Bool
suits roles.Number o = is_number 4294967295 o
suits roles.Words o = is_number NEED_LIMIT o
suits roles.Count o = is_number 255 o
suits roles.Destination o = is_register o
suits roles.Register o = is_register o
suits (roles.Source size) o = is_register o || is_memory o
suits (roles.Store size) o = is_memory o
suits roles.Address o = is_memory o

-- an operand or the label for each part, and no more
abbrev pub fits : List Part → List Operand32 → Option (List ℕ) → Bool
fits [] [] None = true
fits [] [] (Some name) = false
fits [] (o ∷ os) target = false
fits (parts.Label ∷ ps) os None = false
fits (parts.Label ∷ ps) os (Some name) = is_name name && fits ps os None
fits (parts.Operand role ∷ ps) [] target = false
fits (parts.Operand role ∷ ps) (o ∷ os) target = suits role o && fits ps os target

abbrev pub is_instr : Instr32 → Bool
is_instr i = fits (shape i.op).parts i.operands i.target

abbrev pub is_item : Item32 → Bool
is_item (item_kind.Label name) = is_name name
is_item (item_kind.Instr i) = is_instr i

abbrev pub is_code : Code32 → Bool
is_code c = list_all is_area_item c.area && list_all is_item c.items
