pub mod Piles
pub mod Covering
pub mod Typing
pub mod Told
pub mod Performs
pub mod Moves
