-- Endings of names: _of what a rule, an item set or the classes have; _at what there is at a rule, a stack or a state; _from counted on
-- from a number, or of an edge the class that it comes from. See docs/READING.md.
pub mod Symbols
pub mod Items
pub mod Follow
pub mod Marks
pub mod Grammar
pub mod Sets
pub mod Kernels
pub mod Numbering
pub mod Looking
pub mod View
pub mod Rows
pub mod Built
pub mod Entries
pub mod Kept
pub mod Over
pub mod Leads
pub mod Candidates
pub mod Statements
pub mod Promises
