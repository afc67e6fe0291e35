-- Endings of names: _of what a settling, a sum, a choice or a lead has; _at what stands or holds at a number, or behind a change of the
-- lists; _in that it is among these. See docs/READING.md.
pub mod Choosing
pub mod Reading
pub mod Pushing
pub mod Joining
pub mod Deriving
pub mod Growing
pub mod Slots
pub mod Placing
pub mod Settled
pub mod Counting
pub mod Added
pub mod Below
pub mod Leading
