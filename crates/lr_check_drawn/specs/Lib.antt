pub mod Asked
pub mod Drawing
pub mod Rising
pub mod Turning
pub mod Sampled
pub use Rattle.lr_check_samples
