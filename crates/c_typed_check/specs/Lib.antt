pub mod Typed
pub mod Laid
pub mod Functions
pub mod Views
pub use Rattle.c_program
pub use Rattle.c_typed_statements.specs.c_typed_operators as c_typed_operators
pub use Rattle.c_typed_law
