-- Endings of names: _of what kernels, items or rules have; _is what it is that was found or passed a test; _at what stands at a number;
-- _in that it is among these. See docs/READING.md.
pub mod Members
pub mod Symbols_apart
pub mod Marking
pub mod Loops
pub mod RowTurns
pub mod Keeping
pub mod Closing
pub mod Following
pub mod Order
pub mod Found
pub mod KeepTurns
pub mod Counting
pub mod Law
pub mod Validity
pub mod Limits
