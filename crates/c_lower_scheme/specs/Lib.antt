-- Endings of names: _by goes by a part that it is given; _so is made once it is decided what has to be saved; _of a part of what it is
-- given, or what is emitted for it. See docs/READING.md.
pub mod Trees
pub mod Spelling
pub mod Saving
pub mod Parts
pub mod Places
pub mod Conditions
pub mod Values
pub mod Calls
pub mod Assignments
pub mod Expressions
pub mod Mentions
pub mod Zeros
pub mod Flow
pub mod Statements
pub mod Programs
pub mod BlockExample
pub mod Examples
