-- Endings of names: _by goes by the class of a token, or another part that it is given; _of that a class or tokens have this, from what
-- they are not; _step one declarator more, or an operator that steps; _at at the place of a token. See docs/READING.md.
pub mod Seen
pub mod Stops
pub mod TypeExits
pub mod ExpressionLaws
pub mod Exits
pub mod Closing
pub mod ListLaws
pub mod ItemLaws
pub mod UnitLaws
pub mod Parsing
pub mod Firsts
