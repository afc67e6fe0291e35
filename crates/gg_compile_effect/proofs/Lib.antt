-- Endings of names: _is what a course or a root is. See docs/READING.md.
pub mod Trees
pub mod Naming
pub mod Courses
pub mod Law
