pub mod Laws
pub use Rattle.l32_target_statements
pub use Rattle.l32_target_statements.specs.l32_target_rules as l32_target_rules
pub use Rattle.l32_target_statements.specs.l32_target_meaning as l32_target_meaning
