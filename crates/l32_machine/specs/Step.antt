-- One step: the next instruction is done.
use Rattle.std.specs.Prelude.{◌≡◌, ℕ, ◌+◌, Bool, true, List, Option, Some, None, Ok, Err, slice_get, if◌then◌else◌}
use Rattle.gg_base.specs.Arithmetic.{sub32, mul32}
use Rattle.gg_base.specs.Relations.{holds}
use Rattle.l32_core.specs.declared.operand.Operand32.{Operand32}
use Rattle.l32_core.specs.declared.op.Op32.{Op32}
use Rattle.l32_core.specs.declared.code.Item32.{Item32}
use Rattle.l32_core.specs.declared.code.Item32.TheVariants as item_kind
use Rattle.l32_core.specs.Ops.{shape}
use Rattle.l32_machine.specs.declared.turn.Turn32.{Turn32}
use Rattle.l32_machine.specs.declared.turn.Turn32.TheVariants as turns
use Rattle.l32_machine.specs.declared.turn.Stop32.{Stop32}
use Rattle.l32_machine.specs.declared.turn.Stop32.TheVariants as stops
use Rattle.l32_machine.specs.declared.operands.Arguments.{Arguments}
use Rattle.l32_machine.specs.declared.operands.Destination.{Destination}
use Rattle.l32_machine.specs.declared.function.Action.{Action}
use Rattle.l32_machine.specs.declared.function.Action.TheVariants.{Compute, Branch, Jump, Push, Enter, Call, Return}
use Rattle.l32_machine.specs.State.{State, bad_code, ◌>>=◌}
use Rattle.l32_machine.specs.Memory.{sp_set}
use Rattle.l32_machine.specs.Operands.{all_evaluated, stored}
use Rattle.l32_machine.specs.Functions.{action_of, applied}
use Rattle.l32_machine.specs.Labels.{next_item, label_place}
use Rattle.l32_machine.specs.Calls.{Acts, silent, pushed, called_by_name, returned}

-- a result is put where it goes; where there is none, a divisor was zero
abbrev pub finished : State → Option Destination → Option ℕ → Acts
finished m d None = Err stops.Trapped
finished m d (Some v) = silent (stored m d v)

abbrev pub branched : State → Bool → Option (List ℕ) → Acts
branched m taken None = Err bad_code
branched m taken (Some name) = Ok (None, (if taken then record m { place = label_place m.items name } else m))

-- what is done with the operands
abbrev pub acted : Action → Arguments → Option (List ℕ) → State → Acts
acted (Compute f) x target m = finished m x.destination (applied f x.first x.second)
acted (Branch relation) x target m = branched m (holds relation x.first x.second) target
acted Jump x target m = branched m true target
acted Push x target m = silent (pushed m x.first)
acted Enter x target m = silent (sp_set m (sub32 m.sp (mul32 4 x.first)))
acted Call x target m = called_by_name m x.first target
acted Return x target m = returned m

-- an instruction: its operands are evaluated, and then it is done
unfoldable pub instruction : State → Op32 → List Operand32 → Option (List ℕ) → Acts
instruction m op os target = all_evaluated m (shape op).parts os >>= λ (x : Arguments). acted (action_of op) x target m

-- the item at a place is done; the one behind it is then the next
abbrev pub at_item : Option Item32 → ℕ → State → Acts
at_item None place m = Err bad_code
at_item (Some (item_kind.Label name)) place m = Err bad_code
at_item (Some (item_kind.Instr i)) place m = instruction (record m { place = place + 1 }) i.op i.operands i.target

unfoldable pub act : State → Acts
act m = at_item (slice_get m.items (next_item m.items m.place)) (next_item m.items m.place) m

-- what a step does: it goes on, or it writes a byte and goes on, or the run is over
pub data Next : Type 0 where
  Goes : State → Next
  Writes : ℕ → State → Next
  Stops : Stop32 → Next

abbrev pub next_of : Acts → Next
next_of (Ok (None, m)) = Goes m
next_of (Ok (Some b, m)) = Writes b m
next_of (Err e) = Stops e

abbrev pub next_where : Option Stop32 → State → Next
next_where (Some e) m = Stops e
next_where None m = next_of (act m)

-- one step of a machine
abbrev pub step_of : State → Next
step_of m = next_where m.over m

-- what a step answers where the run is over
abbrev pub turn_of : Stop32 → Turn32
turn_of (stops.Ended value) = turns.Ended value
turn_of stops.Trapped = turns.Trapped
turn_of (stops.Broken kind) = turns.Broken kind

-- an answer and the state after it are that step's; an end is answered again by each further step
abbrev pub IsStep : Turn32 → State → Next → Type 0
IsStep turn m (Goes n) = (turn ≡ turns.Going) × (m ≡ n)
IsStep turn m (Writes b n) = (turn ≡ turns.Wrote b) × (m ≡ n)
IsStep turn m (Stops e) = (turn ≡ turn_of e) × (m.over ≡ Some e)
