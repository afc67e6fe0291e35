-- What each item of a code does, by the two tables of instructions: found as the code is loaded, so that no step looks for it.
use Rattle.std.specs.Prelude.{List, [], Option, Some, None}
use Rattle.vax_core.specs.declared.op.OperandKind.{OperandKind}
use Rattle.vax_core.specs.declared.code.CodeItem.{CodeItem}
use Rattle.vax_core.specs.declared.code.CodeItem.TheVariants as item_kind
use Rattle.vax_core.specs.Ops.{shape}
use Rattle.vax_machine.specs.declared.function.Action.{Action}
use Rattle.vax_machine.specs.declared.function.Action.TheVariants.{Return}
use Rattle.vax_machine.specs.declared.program.Row.{Row}
use Rattle.vax_machine.specs.Functions.{action_of}

-- the operands that an item takes, and what it does with them
pub record Doing : Type 0 where
  pub kinds : List OperandKind
  pub action : Action

abbrev pub row_view : Row → Doing
row_view r = record { kinds = r.kinds.now; action = r.action }

-- what stands for an item that is no instruction; no step comes to it
abbrev pub idle : Doing
idle = record { kinds = []; action = Return }

abbrev pub row_of : CodeItem → Doing
row_of (item_kind.Label name) = idle
row_of (item_kind.Globl name) = idle
row_of (item_kind.Mask mask) = idle
row_of (item_kind.Instr i) = record { kinds = (shape i.op).operands; action = action_of i.op }

abbrev pub row_at : Option CodeItem → Doing
row_at None = idle
row_at (Some item) = row_of item
