-- Endings of names: _is what a symbol's operand is, or where an instruction's result goes. See docs/READING.md.
pub mod Each
pub mod Longs
pub mod Table
pub mod Lines
pub mod Operands
pub mod Written
pub mod Fitting
pub mod Naming
pub mod Given
pub mod Spilling
