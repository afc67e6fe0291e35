-- Endings of names: _by goes by the cases of a part that it is given; _of what an attribute, an operand, pieces or a register have, or a
-- place of this size; _at what stands at a number. See docs/READING.md.
pub mod Filling
pub mod Forms
pub mod Machine
pub mod Running
pub mod Sample
pub mod Spills
pub mod Templates
pub mod Toy
