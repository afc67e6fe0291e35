-- Endings of names: _by goes by the cases of a part that it is given; _of what an attribute, a stack, an outcome or leaves have; _at what
-- stands or is done at a place or a number; _in what an entry or a setting gives, or into what a value goes. See docs/READING.md.
pub mod Entries
pub mod Desk
pub mod Spills
pub mod Reductions
pub mod Selected
pub mod Joined
pub mod Tallied
pub mod Mirror
pub use Rattle.lr_check_parse
