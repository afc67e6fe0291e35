pub mod Laws
pub use Rattle.vax_alike
