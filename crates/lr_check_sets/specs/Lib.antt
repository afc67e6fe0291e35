-- Endings of names: _of what a production, the rules or a table have. See docs/READING.md.
pub mod Trees
pub mod Automaton
pub mod Sums
pub mod Loose
pub mod Items
pub mod Shapes
pub mod Faults
pub mod Bound
pub mod Answers
pub mod Claims
pub mod Samples
pub mod Table
pub mod Exact
pub mod Closed
pub use Rattle.md_reader
pub use Rattle.lr_tables
pub use Rattle.lr_check
