-- Endings of names: _by goes by the cases of a part that it is given; _is what an address, a place, a register, a table or a state is;
-- _from counted on from a place, or from now on. See docs/READING.md.
pub mod Law
pub mod Stepping
pub mod Registers
pub mod Places
pub mod Addresses
pub mod Keeping
pub mod Numbers
pub mod Labelling
pub mod Mapping
pub mod TableLaws
pub mod LayoutLaws
pub mod Starting
pub mod Room
pub mod Rows
