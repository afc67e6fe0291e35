-- Frames of the compiled program's calls.
use Rattle.std.specs.Prelude.{◌≡◌, ℕ, ◌+◌, ◌%◌, ◌^◌, ◌<◌, ◌≤◌, List, ◌∷◌, take, drop, slice_get, slice_index, Option, Some}
use Rattle.gg_base.specs.declared.limits.TheConstants.{NEED_LIMIT}
use Rattle.vax_machine_live.specs.declared.frame.Frame.{Frame}
use Rattle.vax_core.specs.declared.code.CodeItem.{CodeItem}
use Rattle.vax_core.specs.declared.code.CodeItem.TheVariants as item_kind
use Rattle.vax_machine.specs.Labels.{next_item, label_place}
use Rattle.vax_states.specs.vax_machine_lists.specs.Runs.{HasInstrs}
use Rattle.vax_frames.specs.Frames.{room_code}
use Rattle.vax_machine.specs.State.{State}
use Rattle.tree_core.specs.declared.program.TreeFn.{TreeFn}
use Rattle.tree_meaning.specs.State.{begun}
use Rattle.tree_meaning.specs.State.{State as Trees}

-- the trees' state in which a called function begins; the arguments were the last that were pushed
abbrev pub with_call : Trees → TreeFn → ℕ → Trees
with_call t g count = record {
  running = begun g (take count t.running.pushed);
  callers = record t.running { pushed = drop count t.running.pushed } ∷ t.callers;
  area = t.area;
  input = t.input;
}

-- a mask that frames have: none of r0, r1, ap, fp and sp
pub record IsMask (mask : ℕ) : Type 0 where
  pub low : mask % 4 ≡ 0
  pub high : mask < 2 ^ 12

-- Behind a function's label stand an entry mask and the instruction that makes room for the frame's words, of which the
-- locals are the first.
pub record HasFrame (code : List CodeItem) (label : List ℕ) (locals : ℕ) : Type 0 where
  pub words : ℕ
  pub mask : ℕ
  pub entry : ℕ
  pub enough : locals ≤ words
  pub few : words ≤ NEED_LIMIT
  pub is_mask : IsMask mask
  pub entry_is : next_item code (label_place code label) ≡ entry
  pub mask_there : slice_get code entry ≡ Some (item_kind.Mask mask)
  pub room : HasInstrs code (entry + 1) (room_code words)

-- A frame that a call has made in a state: its registers are kept in it, and where to go on.
pub record IsMadeIn (m : State) (mask : ℕ) (back : Option ℕ) (f : Frame) : Type 0 where
  pub mask_is : f.mask ≡ mask
  pub back_is : f.back ≡ back
  pub kept : (r : ℕ) → r < 14 → slice_index f.saved r ≡ slice_index m.registers r
