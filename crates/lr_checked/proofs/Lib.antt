-- Endings of names: _of a fact made of how the replay ends, or the rows of so many item sets. See docs/READING.md.
pub mod Trees
pub mod Counting
pub mod Law
pub mod Printing
pub mod Tables
pub mod Typed
pub mod Stopping
pub mod Refusing
pub mod Drawn
