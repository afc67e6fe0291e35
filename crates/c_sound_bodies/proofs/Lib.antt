-- Endings of names: _by goes by the cases of a part that it is given; _is that what is made, often named by an equation, is as it has to
-- be. See docs/READING.md.
pub mod ByParts
pub mod Rules
pub mod Names
pub mod Growth
pub mod Expressions
pub mod Closures
pub mod Steps
pub mod Rooms
pub mod Objects
pub mod Declared
pub mod Memory
pub mod Locals
pub mod Parts
pub mod Law
pub mod Areas
pub mod Lengths
pub mod Adding
