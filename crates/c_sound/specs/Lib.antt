pub mod Fits
pub mod Stands
pub mod Labels
pub mod Sound
