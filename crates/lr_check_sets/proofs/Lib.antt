-- Endings of names: _step that one step of the parse keeps it; _of a fact or a list made of what it is given; _at at a depth or a number;
-- _from a tree that begins with a token, or where a rule was opened; _in inside a list, or that it is in sets which are closed. See
-- docs/READING.md.
pub mod Walks
pub mod Beginnings
pub mod Tables
pub mod Asks
pub mod Endless
pub mod Reached
pub mod Faults
pub mod Accepted
pub mod Shapes
pub mod Bound
pub mod Ends_within
pub mod Whole_sets
pub mod Real
pub mod Fixed
pub mod Fixed_sums
pub mod Own_trees
pub mod Whole_ends
pub mod Links
pub mod Rows
pub mod Patterned
pub mod Meeting
pub mod Closing
