pub mod Items
pub mod Standing
pub use Rattle.vax_homes_law
