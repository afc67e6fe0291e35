-- Endings of names: _by goes by the number of an element, whatever gave that; _is what this comes to. See docs/READING.md.
pub mod Outcomes
pub mod Table
pub mod Calls
pub mod Shifts
pub mod Letters
pub mod Whole
