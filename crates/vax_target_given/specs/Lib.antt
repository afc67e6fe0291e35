pub mod Laws
pub use Rattle.vax_target_shapes.specs.vax_target_reading as vax_target_reading
