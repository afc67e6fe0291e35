-- What stands at the front of a text section, as the reader computes it: fields, and the refs to them.
use Rattle.std.specs.Prelude.{ℕ, ◌+◌, ◌==◌, nat_le, List, [], ◌∷◌, drop, length, Option, Some, None, if◌then◌else◌}
use Rattle.std.specs.Option.{option_map}
use Rattle.gg_base.specs.declared.size.Size.{Size}
use Rattle.gg_base.specs.declared.size.Size.TheVariants.{Byte, Word, Long}
use Rattle.gg_base.specs.Sizes.{bytes_of}
use Rattle.gg_base.specs.Arithmetic.{sext8, sext16}
use Rattle.gg_base.specs.LittleEndian.{number_in}
use Rattle.vax_core.specs.declared.operand.Addr.{Addr}
use Rattle.vax_image_format.specs.declared.field.Ref.{Ref}

-- what is left of a section: the place, the bytes from there on, and the refs to fields that are not read yet
pub record Front : Type 0 where
  pub place : ℕ
  pub bytes : List ℕ
  pub refs : List Ref

abbrev pub front : ℕ → List ℕ → List Ref → Front
front place bytes refs = record { place = place; bytes = bytes; refs = refs }

-- what is left behind so many bytes
abbrev pub behind : ℕ → Front → Front
behind n f = front (f.place + n) (drop n f.bytes) f.refs

-- the number in a field of a size
unfoldable pub field_front : Size → Front → Option (ℕ × Front)
field_front size f = if nat_le (bytes_of size) (length f.bytes) then Some (number_in size f.bytes 0, behind (bytes_of size) f) else None

-- what the next ref says of the field at a place, if it is this field's
abbrev pub ref_at : ℕ → List Ref → Option Addr
ref_at place [] = None
ref_at place (r ∷ refs) = if r.place == place then Some r.addr else None

abbrev pub behind_ref : ℕ → List Ref → List Ref
behind_ref place [] = []
behind_ref place (r ∷ refs) = if r.place == place then refs else r ∷ refs

abbrev pub with_ref : Front → ℕ × Front → ℕ × Option Addr × Front
with_ref f x = (x.0, ref_at f.place f.refs, front x.1.place x.1.bytes (behind_ref f.place f.refs))

-- the number in a field, and its ref if it has one
unfoldable pub held_front : Size → Front → Option (ℕ × Option Addr × Front)
held_front size f = option_map (with_ref f) (field_front size f)

abbrev pub plain : ℕ → Addr
plain n = record { name = None; offset = n }

-- the address that a ref gives, or the number
abbrev pub held_addr : Option Addr → ℕ → Addr
held_addr None n = plain n
held_addr (Some a) n = a

-- the number of a field with its sign copied
abbrev pub signed : Size → ℕ → ℕ
signed Byte n = sext8 n
signed Word n = sext16 n
signed Long n = n
