pub mod Sources
pub use Rattle.c_typed_check
