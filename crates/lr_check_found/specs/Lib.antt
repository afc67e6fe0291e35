-- Endings of names: _of what a settling, or how it was made, has, or what is made of these parts. See docs/READING.md.
pub mod Choices
pub mod Lists
pub mod Found
pub mod Items
pub mod Sound
pub mod Adding
pub mod Count
pub use Rattle.tree_core
pub use Rattle.md_reader
pub use Rattle.lr_check_sets
