-- Frames of the compiled program's calls.
use Rattle.std.specs.Prelude.{◌≡◌, ℕ, ◌+◌, ◌≤◌, List, length, slice_get, Some}
use Rattle.gg_base.specs.declared.limits.TheConstants.{AREA_LIMIT, NEED_LIMIT, STACK_START}
use Rattle.vax_core.specs.declared.code.AreaItem.{AreaItem}
use Rattle.l32_core.specs.declared.code.Item32.{Item32}
use Rattle.l32_core.specs.declared.code.Item32.TheVariants as item_kind
use Rattle.l32_machine.specs.State.{State}
use Rattle.l32_machine.specs.Labels.{next_item, label_place}
use Rattle.tree_core.specs.declared.program.Object.{Object}
use Rattle.l32_frames.specs.Frames.{enter}
use Rattle.l32_states.specs.vax_machine_lists.specs.Sound.{AllBelow}
use Rattle.l32_states.specs.vax_target_meaning.specs.vax_machine.specs.Area.{label_address, area_bytes}
use Rattle.l32_states.specs.l32_target_meaning.specs.Agreeing.{HasRoom}

-- Behind a function's label stands the instruction that makes room for the frame's longwords, of which the locals are the first.
pub record HasFrame (code : List Item32) (label : List ℕ) (locals : ℕ) : Type 0 where
  pub words : ℕ
  pub entry : ℕ
  pub enough : locals ≤ words
  pub few : words ≤ NEED_LIMIT
  pub entry_is : next_item code (label_place code label) ≡ entry
  pub enters : slice_get code entry ≡ Some (item_kind.Instr (enter words))

-- room for a whole call: about two million bytes, which are left as long as at most `ACTIVE_CALL_LIMIT` calls are active
pub record IsRoomy (m : State) : Type 0 where
  pub room : HasRoom m
  pub wide : STACK_START + 2000000 ≤ m.sp

-- a data area has objects where their labels are, and these bytes
pub record HoldsObjects (objects : List Object) (layout : List AreaItem) (area : List ℕ) : Type 0 where
  pub labelled : (n : ℕ) (o : Object) → slice_get objects n ≡ Some o → label_address layout o.label ≡ o.address
  pub area_is : area_bytes layout ≡ area
  pub bytes : AllBelow 256 area
  pub size : length area ≤ AREA_LIMIT
