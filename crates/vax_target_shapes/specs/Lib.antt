pub mod Laws
pub use Rattle.vax_target_reading
pub use Rattle.vax_target_reading.specs.vax_target_writing as vax_target_writing
pub use Rattle.vax_target_operands
