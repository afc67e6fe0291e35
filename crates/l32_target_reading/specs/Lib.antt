pub mod Laws
pub use Rattle.l32_states
pub use Rattle.l32_target_spelling
pub use Rattle.l32_states.specs.l32_target_meaning as l32_target_meaning
