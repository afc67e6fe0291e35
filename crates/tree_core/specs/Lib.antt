-- Endings of names: _of what a token, an attribute, an item, a name, a tree or the functions have. See docs/READING.md.
pub mod Grammar
pub mod Attributes
pub mod Names
pub mod Trees
pub mod Wanted
pub mod Items
pub mod Window
pub mod Labels
pub mod Locals
pub mod Valid
pub mod Area
pub mod Calm
pub mod Hashes
