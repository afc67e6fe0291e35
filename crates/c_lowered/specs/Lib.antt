pub mod Lowered
pub use Rattle.c_lower.specs.c_typed as c_typed
