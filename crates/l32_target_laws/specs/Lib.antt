pub mod Laws
pub use Rattle.l32_target_traps.specs.l32_target_meaning as l32_target_meaning
