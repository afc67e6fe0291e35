-- Endings of names: in_ what is found behind a phrase; _of what an expression applies `&` to. See docs/READING.md.
pub mod Marks
pub mod Expressions
pub mod Statements
pub mod Views
pub use Rattle.c_typed_scope
pub use Rattle.c_phrases
pub use Rattle.c_typed_expressions
pub use Rattle.gg_base
