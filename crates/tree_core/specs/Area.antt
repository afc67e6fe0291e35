-- The data area: bytes from the address `AREA_START` on, little-endian, unaligned accesses allowed.
use Rattle.std.specs.Prelude.{◌≡◌, ℕ, ◌+◌, ◌-◌, Bool, ◌&&◌, nat_le, List, [], ◌∷◌, ◌++◌, length, replicate, take, drop, slice_get}
use Rattle.std.specs.Prelude.{Option, Some, None, cond}
use Rattle.std.specs.Int.{w32, to_le_bytes}
use Rattle.gg_base.specs.declared.limits.TheConstants.{AREA_START}
use Rattle.gg_base.specs.declared.size.Size.{Size}
use Rattle.gg_base.specs.Sizes.{bytes_of}
use Rattle.gg_base.specs.LittleEndian.{number_in, with_number}
use Rattle.tree_core.specs.declared.program.Link.{Link}
use Rattle.tree_core.specs.declared.program.Object.{Object}

-- all bytes of an access lie in the area
abbrev pub is_inside : Size → List ℕ → ℕ → Bool
is_inside size area address = nat_le AREA_START address && nat_le (address + bytes_of size) (AREA_START + length area)

-- the number at an address, if all its bytes lie in the area
abbrev pub fetched : Size → List ℕ → ℕ → Option ℕ
fetched size area address = cond (is_inside size area address) (Some (number_in size area (address - AREA_START))) None

-- the area with a number at an address, if all its bytes lie there
abbrev pub stored : Size → List ℕ → ℕ → ℕ → Option (List ℕ)
stored size area address v = cond (is_inside size area address) (Some (with_number size area (address - AREA_START) v)) None

-- the bytes of objects from an address on, each object's at its own, and 0 between them
abbrev pub bytes_from : ℕ → List Object → List ℕ
bytes_from at [] = []
bytes_from at (o ∷ os) = replicate (o.address - at) 0 ++ (o.bytes ++ bytes_from (o.address + o.size) os)

-- the data area as a run finds it
abbrev pub opening : List Object → List ℕ
opening objects = bytes_from AREA_START objects

-- the four bytes at a link are the address of the object that it names, the lowest first
abbrev pub HoldsAddress : List Object → List ℕ → Link → Type 0
HoldsAddress os bytes l = (o : Object) → slice_get os l.object ≡ Some o → take 4 (drop l.at bytes) ≡ to_le_bytes w32 o.address
