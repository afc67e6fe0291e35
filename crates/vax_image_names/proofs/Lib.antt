pub mod TableLaws
pub mod Placing
pub mod Standing
pub mod Sizing
