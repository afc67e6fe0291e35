pub mod Laws
pub use Rattle.vax_target_spelling
pub use Rattle.vax_target_spelling.specs.vax_target_writing as vax_target_writing
pub use Rattle.vax_machine
