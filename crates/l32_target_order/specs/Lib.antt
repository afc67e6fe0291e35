pub mod Laws
pub use Rattle.l32_target_meaning
pub use Rattle.judging_laws
