pub mod Runs
pub mod Laws
pub use Rattle.run_leads
pub use Rattle.l32_target_meaning
