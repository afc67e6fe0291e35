-- Endings of names: _of what a right side or a stack has; _at what stands at a number or a depth, or goes by what may stand there. See
-- docs/READING.md.
pub mod Moves
pub mod Attributes
pub mod Lists
pub mod Typed
pub mod Claims
pub use Rattle.lr_tables
pub use Rattle.lr_check
