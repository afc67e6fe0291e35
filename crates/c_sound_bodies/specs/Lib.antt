pub mod States
pub mod Claim
pub use Rattle.c_typed_law.specs.c_typed_definition as c_typed_definition
pub use Rattle.c_typed_words
pub use Rattle.c_typed_law
