pub mod Store
pub mod Holding
pub mod Adding
pub mod Counted
