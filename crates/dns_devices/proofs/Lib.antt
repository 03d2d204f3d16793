pub mod Closed
pub mod Refused
pub mod Told
