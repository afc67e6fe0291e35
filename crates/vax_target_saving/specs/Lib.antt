pub mod Laws
pub use Rattle.vax_target_narrow
pub use Rattle.vax_target_spelling
