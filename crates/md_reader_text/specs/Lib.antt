pub mod Lists
pub mod Lines
pub mod Words
pub mod Numbers
