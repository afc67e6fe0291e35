pub mod Laws
pub use Rattle.vax_target_order.specs.vax_target_meaning as vax_target_meaning
