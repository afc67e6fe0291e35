-- Endings of names: _is what a number that is told is. See docs/READING.md.
pub mod Lines
pub mod Telling
pub mod Outcome
pub mod Exact
pub use Rattle.cmd_compile.specs.cmd_check as cmd_check
pub use Rattle.cmd_compile
