-- Endings of names: _of what a parse, a stack or a fault comes to. See docs/READING.md.
pub mod Shown
pub mod Answers
pub mod Steps
pub mod Faults
pub mod Exclusive
pub use Rattle.sel_parse_desk
pub use Rattle.sel_parse_desk.specs.lr_check_parse as lr_check_parse
