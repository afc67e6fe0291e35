-- What becomes of a body's operands where locals live in registers.
use Rattle.std.specs.Prelude.{ℕ, List, [], ◌∷◌, map, Option, Some, None, if◌then◌else◌}
use Rattle.vax_core.specs.declared.register.Reg.{Reg}
use Rattle.vax_core.specs.declared.operand.Addr.{Addr}
use Rattle.vax_core.specs.declared.operand.Base.{Base}
use Rattle.vax_core.specs.declared.operand.Base.TheVariants as bases
use Rattle.vax_core.specs.declared.operand.Operand.{Operand}
use Rattle.vax_core.specs.declared.code.Instr.{Instr}
use Rattle.vax_core.specs.declared.code.CodeItem.{CodeItem}
use Rattle.vax_core.specs.declared.code.CodeItem.TheVariants as item_kind
use Rattle.vax_homes.specs.declared.choose.Home.{Home}
use Rattle.vax_homes.specs.Choosing.{is_home_at, is_fp, homes_of}

-- the register of the home whose word stands at a displacement from fp
abbrev pub register_at : List Home → Addr → Option Reg
register_at [] a = None
register_at (h ∷ hs) a = if is_home_at h.local a then Some h.register else register_at hs a

abbrev pub home_at : List Home → Reg → Addr → Option Reg
home_at hs r a = if is_fp r then register_at hs a else None

-- `d(fp)` becomes the register, `*d(fp)` the register deferred
abbrev pub held_by : Option Reg → Base → Base
held_by None b = b
held_by (Some r) b = bases.Reg r

abbrev pub pointed_by : Option Reg → Base → Base
pointed_by None b = b
pointed_by (Some r) b = bases.Def r

abbrev pub homed_base : List Home → Base → Base
homed_base hs (bases.Disp a r) = held_by (home_at hs r a) (bases.Disp a r)
homed_base hs (bases.DispDef a r) = pointed_by (home_at hs r a) (bases.DispDef a r)
homed_base hs b = b

abbrev pub homed_operand : List Home → Operand → Operand
homed_operand hs o = record { base = homed_base hs o.base; index = o.index }

abbrev pub homed_instr : List Home → Instr → Instr
homed_instr hs i = record { op = i.op; operands = map (homed_operand hs) i.operands; target = i.target }

abbrev pub homed_item : List Home → CodeItem → CodeItem
homed_item hs (item_kind.Label name) = item_kind.Label name
homed_item hs (item_kind.Globl name) = item_kind.Globl name
homed_item hs (item_kind.Mask mask) = item_kind.Mask mask
homed_item hs (item_kind.Instr i) = item_kind.Instr (homed_instr hs i)

-- the body with those of the wanted locals in registers that may live there
abbrev pub homed : List ℕ → List CodeItem → List CodeItem
homed wanted body = map (homed_item (homes_of wanted body)) body
