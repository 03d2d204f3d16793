pub mod Lists
pub mod Room
pub mod Moved
