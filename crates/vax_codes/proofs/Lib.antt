-- Endings of names: _by goes by the cases of a part that it is given; _at is what stands at a place; _is what a place or a label is; _of what
-- belongs to the code that is given; _same and same_ say that two are the same. See docs/READING.md.
pub mod Turning
pub mod Finding
pub mod Pushing
pub mod Hopping
pub mod Chaining
pub mod Labelling
pub mod Coming
pub mod Untesting
pub mod Retesting
pub mod Dropping
pub mod Marking
pub mod Gathering
pub mod Carrying
pub mod Bringing
pub mod Removing
pub mod Sweeping
pub mod Testing
