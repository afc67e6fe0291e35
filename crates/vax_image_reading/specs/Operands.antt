-- Operands at the front of a text section, as the reader computes them.
use Rattle.std.specs.Prelude.{ℕ, Bool, true, false, ◌/◌, ◌%◌, ◌==◌, nat_lt, Option, Some, None, slice_get, if◌then◌else◌}
use Rattle.std.specs.Option.{option_and_then, option_map}
use Rattle.gg_base.specs.declared.size.Size.{Size}
use Rattle.gg_base.specs.declared.size.Size.TheVariants.{Byte, Word, Long}
use Rattle.vax_core.specs.declared.register.Reg.{Reg}
use Rattle.vax_core.specs.declared.operand.Addr.{Addr}
use Rattle.vax_core.specs.declared.operand.Base.{Base}
use Rattle.vax_core.specs.declared.operand.Base.TheVariants as bases
use Rattle.vax_core.specs.declared.operand.Operand.{Operand}
use Rattle.vax_core.specs.Numbers.{registers}
use Rattle.vax_image_reading.specs.Fronts.{Front, field_front, held_front, plain, held_addr, signed}

abbrev pub immediate : ℕ × Option Addr × Front → Base × Front
immediate x = (bases.Imm (held_addr x.1 x.0), x.2)

abbrev pub absolute : ℕ × Front → Base × Front
absolute x = (bases.Abs x.0, x.1)

-- an address stands alone only where it has a ref
abbrev pub relative_of : (Addr → Base) → Option Addr → Front → Option (Base × Front)
relative_of base None f = None
relative_of base (Some a) f = Some (base a, f)

abbrev pub relative : (Addr → Base) → ℕ × Option Addr × Front → Option (Base × Front)
relative base x = relative_of base x.1 x.2

abbrev pub displaced : (Addr → Reg → Base) → Size → Reg → ℕ × Option Addr × Front → Base × Front
displaced base size r x = (base (held_addr x.1 (signed size x.0)) r, x.2)

abbrev pub disp_front : (Addr → Reg → Base) → Size → Reg → Front → Option (Base × Front)
disp_front base size r f = option_map (displaced base size r) (held_front size f)

-- behind the first byte of a specifier, by its mode
unfoldable pub mode_front : ℕ → Reg → Front → Option (Base × Front)
mode_front mode r f =
    if mode == 0x5 then Some (bases.Reg r, f)
    else if mode == 0x6 then Some (bases.Def r, f)
    else if mode == 0x7 then Some (bases.Dec r, f)
    else if mode == 0x8 then Some (bases.Inc r, f)
    else if mode == 0x9 then Some (bases.IncDef r, f)
    else if mode == 0xa then disp_front bases.Disp Byte r f
    else if mode == 0xb then disp_front bases.DispDef Byte r f
    else if mode == 0xc then disp_front bases.Disp Word r f
    else if mode == 0xd then disp_front bases.DispDef Word r f
    else if mode == 0xe then disp_front bases.Disp Long r f
    else if mode == 0xf then disp_front bases.DispDef Long r f
    else None

abbrev pub register_front : ℕ → Front → Option (Base × Front)
register_front b f = option_and_then (λ (r : Reg). mode_front (b / 16) r f) (slice_get registers (b % 16))

abbrev pub immediate_front : Size → Front → Option (Base × Front)
immediate_front size f = option_map immediate (held_front size f)

abbrev pub absolute_front : Front → Option (Base × Front)
absolute_front f = option_map absolute (field_front Long f)

abbrev pub label_base : Bool → Addr → Base
label_base deferred a = if deferred then bases.RelDef a else bases.Rel a

abbrev pub relative_front : Bool → Front → Option (Base × Front)
relative_front deferred f = option_and_then (relative (label_base deferred)) (held_front Long f)

-- behind the first byte of a specifier
unfoldable pub base_behind : Size → ℕ → Front → Option (Base × Front)
base_behind size b f =
    if nat_lt b 64 then Some (bases.Imm (plain b), f)
    else if b == 0x8f then immediate_front size f
    else if b == 0x9f then absolute_front f
    else if b == 0xef then relative_front false f
    else if b == 0xff then relative_front true f
    else register_front b f

abbrev pub with_index : Option Reg → Base × Front → Operand × Front
with_index index x = (record { base = x.0; index = index }, x.1)

abbrev pub unindexed : Size → Option Reg → ℕ × Front → Option (Operand × Front)
unindexed size index x = option_map (with_index index) (base_behind size x.0 x.1)

-- behind an index
abbrev pub indexed : Size → Front → Reg → Option (Operand × Front)
indexed size f r = option_and_then (unindexed size (Some r)) (field_front Byte f)

abbrev pub first_byte : Size → ℕ × Front → Option (Operand × Front)
first_byte size x = if (x.0 / 16) == 4 then option_and_then (indexed size x.1) (slice_get registers (x.0 % 16)) else unindexed size None x

-- an operand, however long its fields are
unfoldable pub operand_front : Size → Front → Option (Operand × Front)
operand_front size f = option_and_then (first_byte size) (field_front Byte f)
