-- One step: the next instruction is done.
use Rattle.std.specs.Prelude.{◌≡◌, ℕ, ◌+◌, Bool, List, Option, Some, None, Ok, Err, slice_get, if◌then◌else◌}
use Rattle.vax_core.specs.declared.operand.Operand.{Operand}
use Rattle.vax_core.specs.declared.op.Op.{Op}
use Rattle.vax_core.specs.declared.code.CodeItem.{CodeItem}
use Rattle.vax_core.specs.declared.code.CodeItem.TheVariants as item_kind
use Rattle.vax_core.specs.Ops.{shape}
use Rattle.vax_machine.specs.declared.turn.Turn.{Turn}
use Rattle.vax_machine.specs.declared.turn.Turn.TheVariants as turns
use Rattle.vax_machine.specs.declared.turn.Stop.{Stop}
use Rattle.vax_machine.specs.declared.turn.Stop.TheVariants as stops
use Rattle.vax_machine.specs.declared.operands.Arguments.{Arguments}
use Rattle.vax_machine.specs.declared.operands.Destination.{Destination}
use Rattle.vax_machine.specs.declared.function.Computed.{Computed}
use Rattle.vax_machine.specs.declared.function.Action.{Action}
use Rattle.vax_machine.specs.declared.function.Action.TheVariants.{Compute, Push, Branch, Call, Return}
use Rattle.gg_base.specs.declared.size.Size.TheVariants.{Long}
use Rattle.vax_machine.specs.State.{State, with_conditions, bad_code, ◌>>=◌}
use Rattle.vax_machine.specs.Operands.{all_evaluated, stored}
use Rattle.vax_machine.specs.Functions.{action_of, applied, valued, passes}
use Rattle.vax_machine.specs.Labels.{next_item, label_place}
use Rattle.vax_machine.specs.Calls.{Acts, pushed, called_by_name, returned}

-- a result is written and the condition codes are set; where there is none, a divisor was zero
abbrev pub finished : State → Option Destination → Option Computed → Acts
finished m d None = Err stops.Trapped
finished m d (Some c) = stored m d c.value >>= λ (n : State). Ok (None, with_conditions n c.conditions)

abbrev pub pushing : State → ℕ → Acts
pushing m v = pushed m v >>= λ (n : State). Ok (None, with_conditions n (valued Long v m.conditions.carry).conditions)

abbrev pub branched : State → Bool → Option (List ℕ) → Acts
branched m taken None = Err bad_code
branched m taken (Some name) = Ok (None, (if taken then record m { place = label_place m.items name } else m))

-- what is done with the operands
abbrev pub acted : Action → Arguments → Option (List ℕ) → State → Acts
acted (Compute f) x target m = finished m x.destination (applied f x.first x.second m.conditions.carry)
acted Push x target m = pushing m x.first
acted (Branch t) x target m = branched m (passes t m.conditions) target
acted Call x target m = called_by_name m x.first target
acted Return x target m = returned m

-- an instruction: its operands are evaluated, and then it is done
unfoldable pub instruction : State → Op → List Operand → Option (List ℕ) → Acts
instruction m op os target =
    all_evaluated (shape op).operands os m >>= λ (x : Arguments × State). acted (action_of op) x.0 target x.1

-- the item at a place is done; the one behind it is then the next
abbrev pub at_item : Option CodeItem → ℕ → State → Acts
at_item None place m = Err bad_code
at_item (Some (item_kind.Label name)) place m = Err bad_code
at_item (Some (item_kind.Globl name)) place m = Err bad_code
at_item (Some (item_kind.Mask mask)) place m = Err bad_code
at_item (Some (item_kind.Instr i)) place m = instruction (record m { place = place + 1 }) i.op i.operands i.target

unfoldable pub act : State → Acts
act m = at_item (slice_get m.items (next_item m.items m.place)) (next_item m.items m.place) m

-- what a step does: it goes on, or it writes a byte and goes on, or the run is over
pub data Next : Type 0 where
  Goes : State → Next
  Writes : ℕ → State → Next
  Stops : Stop → Next

abbrev pub next_of : Acts → Next
next_of (Ok (None, m)) = Goes m
next_of (Ok (Some b, m)) = Writes b m
next_of (Err e) = Stops e

abbrev pub next_where : Option Stop → State → Next
next_where (Some e) m = Stops e
next_where None m = next_of (act m)

-- one step of a machine
abbrev pub step_of : State → Next
step_of m = next_where m.over m

-- what a step answers where the run is over
abbrev pub turn_of : Stop → Turn
turn_of (stops.Ended value) = turns.Ended value
turn_of stops.Trapped = turns.Trapped
turn_of (stops.Broken kind) = turns.Broken kind

-- an answer and the state after it are that step's; an end is answered again by each further step
abbrev pub IsStep : Turn → State → Next → Type 0
IsStep turn m (Goes n) = (turn ≡ turns.Going) × (m ≡ n)
IsStep turn m (Writes b n) = (turn ≡ turns.Wrote b) × (m ≡ n)
IsStep turn m (Stops e) = (turn ≡ turn_of e) × (m.over ≡ Some e)
