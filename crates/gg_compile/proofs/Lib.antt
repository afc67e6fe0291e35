pub mod Fitting
pub mod Needing
pub mod Ready
