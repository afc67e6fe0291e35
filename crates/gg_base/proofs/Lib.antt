-- Endings of names: _by goes by the cases of a part that it is given; _of what this says of a list or a run; _is what this comes to, or
-- what a test that is true says; _at what holds at a number of turns. See docs/READING.md.
pub mod Lasting
pub mod Following
pub mod Composing
pub mod Facts
pub mod Words
pub mod Mapping
pub mod FrontLaws
pub mod Names
