pub mod Claim
pub use Rattle.c_meaning
