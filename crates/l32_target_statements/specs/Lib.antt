pub mod Laws
pub use Rattle.l32_target_rules
pub use Rattle.l32_target_reading
pub use Rattle.rule_heads
pub use Rattle.l32_target_rules.specs.l32_target_meaning as l32_target_meaning
