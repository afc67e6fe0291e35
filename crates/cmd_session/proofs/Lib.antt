pub mod Fronts
pub mod Intakes
pub mod Runs
pub mod Commands
pub mod Ends
