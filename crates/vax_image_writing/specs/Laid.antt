-- When a code's items are laid out in a text section that is short enough.
use Rattle.std.specs.Prelude.{◌≡◌, ℕ, ◌≤◌, List, length}
use Rattle.gg_base.specs.declared.size.Size.{Size}
use Rattle.vax_core.specs.declared.code.CodeItem.{CodeItem}
use Rattle.vax_image_branches.specs.Branches.{place}
use Rattle.vax_image_branches.specs.Rounds.{ArePlaces}
use Rattle.vax_image_format.specs.Image.{pieces_of}

pub record IsLaid (items : List CodeItem) (forms : List Size) (places : List ℕ) : Type 0 where
  pub many : length forms ≡ length items
  pub placed : ArePlaces (pieces_of items) forms (length items) places
  pub short : place (pieces_of items) forms (length items) ≤ 1073741823
