pub mod Laws
pub use Rattle.l32_target_operands
pub use Rattle.l32_target_operands.specs.l32_target_meaning as l32_target_meaning
