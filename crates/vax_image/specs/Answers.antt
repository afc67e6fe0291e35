-- What writing and reading an image answer.
use Rattle.std.specs.Prelude.{ℕ, List, Result, Ok, Err}
use Rattle.std.specs.Global.{Vec}
use Rattle.gg_base.specs.declared.size.Size.{Size}
use Rattle.vax_core.specs.declared.code.AreaItem.{AreaItem}
use Rattle.vax_core.specs.declared.code.CodeItem.{CodeItem}
use Rattle.vax_core.specs.declared.code.Code.{Code}
use Rattle.vax_machine.specs.Loading.{Loads}
use Rattle.vax_image_branches.specs.Least.{IsLeast}
use Rattle.vax_image_format.specs.Image.{pieces_of, IsShort, IsImage}
use Rattle.vax_image_reading.specs.declared.fault.DecodeFault.{DecodeFault}
use Rattle.vax_image_reading.specs.declared.fault.DecodeFault.TheVariants as decode_fault
use Rattle.vax_image.specs.declared.fault.ImageFault.{ImageFault}
use Rattle.vax_image.specs.declared.fault.ImageFault.TheVariants as image_fault

-- the code of a data area and items
abbrev pub code_with : List AreaItem → List CodeItem → Code
code_with area items = record { area = area; items = items }

-- in the least forms the text section is too long, or a count is too great
abbrev pub IsTooLarge : Code → Type 0
IsTooLarge c = (forms : List Size) → IsLeast (pieces_of c.items) forms → IsShort c forms → ⊥

-- a code's image; or it can't be run; or it can, and is too large
abbrev pub Encoded : Code → Result (Vec ℕ) ImageFault → Type 0
Encoded c (Ok bytes) = IsImage c bytes.items
Encoded c (Err image_fault.NoMemory) = Unit {0}
Encoded c (Err image_fault.Unlinked) = Loads c → ⊥
Encoded c (Err image_fault.TooLarge) = Loads c × IsTooLarge c

-- the code whose image some bytes are, or there is none
abbrev pub Decoded : List ℕ → Result Code DecodeFault → Type 0
Decoded bytes (Ok c) = IsImage c bytes
Decoded bytes (Err decode_fault.NoMemory) = Unit {0}
Decoded bytes (Err decode_fault.NotImage) = (c : Code) → IsImage c bytes → ⊥
