-- Endings of names: _by goes by the cases of a part that it is given; _of what a phrase or an object has, or what is made of it. See
-- docs/READING.md.
pub mod Initialisers
pub mod Forms
pub mod Rooms
pub mod State
pub mod Declarations
pub mod Automatics
pub mod Statements
pub mod Signatures
pub mod Headings
pub mod Bodies
pub mod Texts
pub use Rattle.c_typed_operators
pub use Rattle.c_program
pub use Rattle.c_typed_addressed.specs.c_typed_expressions as c_typed_expressions
pub use Rattle.tree_core
