pub mod Carried
pub mod Fetched
pub mod Heard
pub mod Idle
