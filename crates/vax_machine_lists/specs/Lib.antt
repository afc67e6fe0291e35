pub mod Instructions
pub mod Runs
pub mod Kept
pub mod Sound
pub mod Laws
pub use Rattle.vax_core
pub use Rattle.vax_machine_live
pub use Rattle.vax_machine
