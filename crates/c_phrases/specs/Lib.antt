-- Endings of names: _of the class of a token, the operator of a mark, the level of an operator, or the plain data beside a phrase. See
-- docs/READING.md.
pub mod Classes
pub mod Operators
pub mod Phrases
pub mod Spelling
pub mod Levels
pub mod Shapes
pub mod Takes
pub mod Units
pub mod UnitSpelling
pub mod Fits
pub mod UnitLevels
pub mod Grammar
pub mod UnitShapes
pub mod Fronts
