pub mod Numbers
pub mod Showing
pub mod Alike
pub mod Accepting
