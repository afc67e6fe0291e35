-- Endings of names: _of what an instruction, a text, a location, a state or a stop has or comes to; _at at an item, an address or a size,
-- or in a region; _from laid out from an address on, or a return from a frame; _in the name in an operand or an instruction, or the place
-- of a name in a text. See docs/READING.md.
pub mod State
pub mod Memory
pub mod Area
pub mod Operands
pub mod Functions
pub mod Labels
pub mod Tables
pub mod Rows
pub mod Found
pub mod LaidOut
pub mod Nexts
pub mod Calls
pub mod Step
pub mod View
pub mod Loading
pub mod Running
pub mod Inside
