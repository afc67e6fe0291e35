pub mod Given
pub mod Ended
pub mod Saves
pub mod Law
