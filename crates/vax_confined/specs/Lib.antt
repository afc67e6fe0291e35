pub mod Confined
pub mod Laws
pub use Rattle.vax_machine_lists
pub use Rattle.vax_machine_lists.specs.vax_core as vax_core
pub use Rattle.vax_machine_lists.specs.vax_machine_live as vax_machine_live
pub use Rattle.vax_machine_lists.specs.vax_machine as vax_machine
