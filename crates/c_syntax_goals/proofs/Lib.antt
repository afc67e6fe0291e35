-- Endings of names: _by goes by the class of a token; _step speaks of one step of the parse, or of an operator that steps; _of what a
-- class, an answer, a list of phrases or a bracket has; _is what a token or a phrase is; _at what holds at a token or a level; _from a
-- law from that of another kind of phrase. See docs/READING.md.
pub mod Tokens
pub mod PhraseLaws
pub mod Steps
pub mod Going
pub mod Stating
pub mod Prefix
pub mod Yields
pub mod Spelled
pub mod Inserts
pub mod Joins
pub mod UnitJoins
pub mod Turning
pub mod Completing
pub mod Forgetting
pub mod Viable
pub mod Levelling
pub mod Faults
pub mod Lowness
