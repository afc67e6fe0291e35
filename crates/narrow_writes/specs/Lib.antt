pub mod Laws
pub use Rattle.sel_target
pub use Rattle.vax_machine_lists
