pub mod Claims
pub use Rattle.gg_compile_homes
