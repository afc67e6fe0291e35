pub mod Ways
pub mod Standing
pub mod Piecewise
pub mod Events
pub mod TermStates
pub mod Trees
pub mod SameTrees
pub mod Scopes
pub mod TermOperands
pub mod TermResults
pub mod TermRuns
pub mod Shown
pub mod Functions
pub mod Facts
pub mod Laws
pub use Rattle.gg_base
pub use Rattle.term_core
pub use Rattle.vax_machine_lists
pub use Rattle.vax_machine_lists.specs.vax_core as vax_core
pub use Rattle.vax_machine_lists.specs.vax_machine_live as vax_machine_live
pub use Rattle.vax_machine_lists.specs.vax_machine as vax_machine
