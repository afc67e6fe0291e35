-- Endings of names: _of a fact made of one that says it in other words; _as the same of what equals it; _at what holds at a number, or at
-- a state and a token. See docs/READING.md.
mod Asks
mod Draws
mod Leaves
mod Begun
mod Rises
mod Drawings
mod Turns
mod Samples
