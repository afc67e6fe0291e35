pub mod Shipped
pub mod Wrong
