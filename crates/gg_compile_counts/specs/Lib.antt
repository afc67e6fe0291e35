pub mod Sizes
pub mod Claims
pub use Rattle.gg_compile_spelled
pub use Rattle.gg_compile_spelled.specs.c_lower_bounds as c_lower_bounds
pub use Rattle.gg_compile_spelled.specs.gg_compile_law as gg_compile_law
