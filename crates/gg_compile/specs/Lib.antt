pub mod Needs
pub use Rattle.gg_compile_laws.specs.gg_compile_code.specs.Selecting as Selecting
pub use Rattle.gg_compile_laws.specs.Keeping
