pub mod Laws
pub use Rattle.judging_laws
