pub mod Items
pub mod Writing
pub mod Standing
