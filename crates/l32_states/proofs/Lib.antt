pub mod Touching
pub mod Sound
pub mod Pieces
pub mod Standing
pub mod Law
