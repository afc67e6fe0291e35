-- Endings of names: _so a fact that its neighbours cite; _of a fact made of what a test or a choice says, or the number of an ending. See
-- docs/READING.md.
pub mod EachShown
pub mod Telling
pub mod States
pub mod Placing
pub mod Going
pub mod Law
