pub mod Views
pub use Rattle.c_typed_operators
pub use Rattle.c_typed_definition
