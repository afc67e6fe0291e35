-- Endings of names: _of the plain data beside a value, or what a symbol, a part or a rule has. See docs/READING.md.
pub mod Effects
pub mod Parts
pub mod Wanted
pub mod Reading
pub mod Stack
pub mod Text
pub mod RuleFacts
pub mod Same
pub use Rattle.gg_base
pub use Rattle.tree_core
pub use Rattle.md_reader
pub use Rattle.term_core
