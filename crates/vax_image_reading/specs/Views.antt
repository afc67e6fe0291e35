-- What is left of a text section, as the reader's values tell it.
use Rattle.std.specs.Prelude.{◌≡◌, ℕ, List, Option, Some, None, Result, Ok, Err}
use Rattle.std.specs.Borrow.{Bor}
use Rattle.std.specs.Global.{Vec}
use Rattle.std.specs.Option.{option_copied}
use Rattle.vax_core.specs.declared.operand.Addr.{Addr}
use Rattle.vax_core.specs.declared.code.CodeItem.{CodeItem}
use Rattle.vax_core.specs.declared.code.Code.{Code}
use Rattle.vax_image_format.specs.declared.field.Mark.{Mark}
use Rattle.vax_image_reading.specs.declared.cursor.Cursor.{Cursor}
use Rattle.vax_image_reading.specs.declared.fields.Held.{Held}
use Rattle.vax_image_reading.specs.declared.fault.DecodeFault.{DecodeFault}
use Rattle.vax_image_reading.specs.declared.fault.DecodeFault.TheVariants.{NoMemory, NotImage}
use Rattle.vax_image_reading.specs.Fronts.{Front, front}
use Rattle.vax_image_reading.specs.Items.{ItemFront}

abbrev pub view : Cursor → Front
view c = front c.place c.bytes.now c.refs.now

abbrev pub held_view : Held → ℕ × Option Addr × Front
held_view h = (h.number, option_copied h.addr, view h.rest)

-- what stands at the front and what is left behind it, or nothing, or memory ran out
abbrev pub Gives : {A : Type 0} → Result (A × Cursor) DecodeFault → Option (A × Front) → Type 0
Gives (Ok x) wanted = wanted ≡ Some (x.0, view x.1)
Gives (Err NoMemory) wanted = Unit {0}
Gives (Err NotImage) wanted = wanted ≡ None

-- the same of an item, of the marks that are left and of the rest
abbrev pub GivesItem : Result (CodeItem × Bor (List Mark) × Cursor) DecodeFault → Option ItemFront → Type 0
GivesItem (Ok x) wanted = wanted ≡ Some (x.0, x.1.now, view x.2)
GivesItem (Err NoMemory) wanted = Unit {0}
GivesItem (Err NotImage) wanted = wanted ≡ None

-- the same of a part of an image that is no field
abbrev pub GivesPart : {A : Type 0} → Result (A × Bor (List ℕ)) DecodeFault → Option (A × List ℕ) → Type 0
GivesPart (Ok x) wanted = wanted ≡ Some (x.0, x.1.now)
GivesPart (Err NoMemory) wanted = Unit {0}
GivesPart (Err NotImage) wanted = wanted ≡ None

-- of several parts
abbrev pub GivesParts : {A : Type 0} → Result (Vec A × Bor (List ℕ)) DecodeFault → Option (List A × List ℕ) → Type 0
GivesParts (Ok x) wanted = wanted ≡ Some (x.0.items, x.1.now)
GivesParts (Err NoMemory) wanted = Unit {0}
GivesParts (Err NotImage) wanted = wanted ≡ None

-- of all items of a section
abbrev pub GivesItems : Result (Vec CodeItem) DecodeFault → Option (List CodeItem) → Type 0
GivesItems (Ok items) wanted = wanted ≡ Some items.items
GivesItems (Err NoMemory) wanted = Unit {0}
GivesItems (Err NotImage) wanted = wanted ≡ None

-- of a code
abbrev pub GivesCode : Result Code DecodeFault → Option Code → Type 0
GivesCode (Ok c) wanted = wanted ≡ Some c
GivesCode (Err NoMemory) wanted = Unit {0}
GivesCode (Err NotImage) wanted = wanted ≡ None
