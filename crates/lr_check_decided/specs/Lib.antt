pub mod Alone
pub mod Calm
pub mod Turn
pub mod Decided
pub mod Held
