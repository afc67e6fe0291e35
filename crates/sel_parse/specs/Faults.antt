-- Which refusal of a reduction is which of a selection.
use Rattle.sel_parse_desk.specs.declared.desk.DeskFault.{DeskFault}
use Rattle.sel_parse_desk.specs.declared.desk.DeskFault.TheVariants as desk_fault
use Rattle.sel_parse.specs.declared.selection.ParseFault.{ParseFault}
use Rattle.sel_parse.specs.declared.selection.ParseFault.TheVariants as parse_fault

abbrev pub fault_of : DeskFault → ParseFault
fault_of desk_fault.NoMemory = parse_fault.NoMemory
fault_of desk_fault.FrameFull = parse_fault.FrameFull
fault_of desk_fault.NoRegister = parse_fault.Blocked
