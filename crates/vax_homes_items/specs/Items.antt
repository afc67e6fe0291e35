-- What stays of a body's items where locals live in registers: only operands change.
use Rattle.std.specs.Prelude.{◌≡◌, ℕ, List, ◌++◌, length, map, true}
use Rattle.std.specs.List.{list_all}
use Rattle.vax_homes_law.specs.vax_confined.specs.vax_core.specs.declared.code.AreaItem.{AreaItem}
use Rattle.vax_homes_law.specs.vax_confined.specs.vax_core.specs.declared.code.CodeItem.{CodeItem}
use Rattle.vax_homes_law.specs.vax_confined.specs.vax_core.specs.declared.code.Instr.{Instr}
use Rattle.vax_homes_law.specs.vax_confined.specs.vax_core.specs.Valid.{is_code_item}
use Rattle.vax_homes_law.specs.vax_confined.specs.vax_machine.specs.Labels.{is_label, has_label, label_place, undefined_at}
use Rattle.vax_homes_law.specs.vax_homes.specs.vax_frames.specs.Frames.{code_items}
use Rattle.vax_homes_law.specs.vax_homes.specs.declared.choose.Home.{Home}
use Rattle.vax_homes_law.specs.vax_homes.specs.Homing.{homed_instr, homed_item, homed}

-- An item with homes is the label that it was, and the first name in it that isn't there is the same, in whatever code and data area.
pub record IsLike (hs : List Home) (x : CodeItem) : Type 0 where
  pub label : (name : List ℕ) → is_label (homed_item hs x) name ≡ is_label x name
  pub names : (area : List AreaItem) (code : List CodeItem) → undefined_at area code (homed_item hs x) ≡ undefined_at area code x

abbrev pub HomedItemsAreLike : Type 0
HomedItemsAreLike = (hs : List Home) (x : CodeItem) → IsLike hs x

-- A body with homes has as many items, and the same labels in the same places. The instructions of a tree stay together.
pub record AreLike (hs : List Home) (body : List CodeItem) : Type 0 where
  pub size : length (map (homed_item hs) body) ≡ length body
  pub labels : (name : List ℕ) → has_label (map (homed_item hs) body) name ≡ has_label body name
  pub places : (name : List ℕ) → label_place (map (homed_item hs) body) name ≡ label_place body name
  pub behind : (is : List Instr)
      → map (homed_item hs) (code_items is ++ body) ≡ code_items (map (homed_instr hs) is) ++ map (homed_item hs) body

abbrev pub HomedBodiesAreLike : Type 0
HomedBodiesAreLike = (hs : List Home) (body : List CodeItem) → AreLike hs body

-- A text can be written of a body with homes where one can be of the body: a register stands where a longword is read or written, and a
-- register deferred where memory may stand.
abbrev pub HomedBodiesCanBeWritten : Type 0
HomedBodiesCanBeWritten = (wanted : List ℕ) (body : List CodeItem) → list_all is_code_item body ≡ true
    → list_all is_code_item (homed wanted body) ≡ true
