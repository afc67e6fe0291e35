pub mod Laws
pub use Rattle.line_names
pub use Rattle.l32_target_fits
pub use Rattle.l32_target_lines
pub use Rattle.l32_target_fits.specs.l32_target_meaning as l32_target_meaning
