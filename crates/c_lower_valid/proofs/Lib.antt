-- Endings of names: _by goes by the cases of a part that it is given; _of that a test or a `for` is so, or how often a number is there;
-- _step that `++` and `--` are so. See docs/READING.md.
pub mod Named
pub mod Rows
pub mod Orders
pub mod Fine
pub mod Lowerings
pub mod Phrases
pub mod StatementItems
pub mod Marks
pub mod Labels
pub mod Loops
pub mod Spelled
pub mod Naming
pub mod Law
