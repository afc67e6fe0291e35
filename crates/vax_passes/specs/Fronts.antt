-- What comes next in front of some items of a code.
use Rattle.std.specs.Prelude.{◌≡◌, ℕ, Bool, false, not, ◌&&◌, List, Option, Some, None}
use Rattle.std.specs.Str.{bytes_eq}
use Rattle.indexmap.specs.IndexSet.{contains_by}
use Rattle.vax_core.specs.declared.code.CodeItem.{CodeItem}
use Rattle.vax_core.specs.declared.code.CodeItem.TheVariants as item_kind
use Rattle.vax_passes.specs.declared.front.Front.{Front}
use Rattle.vax_passes.specs.Jumps.{leads_to, mask_next}
use Rattle.vax_passes.specs.Dropping.{is_jump}

abbrev pub has_label : Front → List ℕ → Bool
has_label f name = contains_by (λ k. bytes_eq name k.items) f.labels

-- what is known of the items' front is so
pub record IsFront (f : Front) (items : List CodeItem) : Type 0 where
  pub labels : (name : List ℕ) → has_label f name ≡ leads_to name items
  pub mask : f.is_mask ≡ mask_next items

abbrev pub leads_by : Front → Option (List ℕ) → Bool
leads_by f None = false
leads_by f (Some name) = has_label f name && not f.is_mask

-- the item is a jump to what comes next anyway
abbrev pub jumps_to : CodeItem → Front → Bool
jumps_to (item_kind.Label n) f = false
jumps_to (item_kind.Globl n) f = false
jumps_to (item_kind.Mask m) f = false
jumps_to (item_kind.Instr i) f = is_jump i.op && leads_by f i.target
