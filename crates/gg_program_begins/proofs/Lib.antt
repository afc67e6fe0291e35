pub mod Empty
pub mod Law
