pub mod Alike
pub mod Claims
pub mod Ready
pub mod Laying
pub mod Calling
pub use Rattle.vax_confined
pub use Rattle.vax_homes
