pub mod Laws
pub use Rattle.vax_target_writing
pub use Rattle.vax_target_writing.specs.vax_target_meaning as vax_target_meaning
