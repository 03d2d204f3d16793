mod Accepted
pub mod Brought
pub mod Carried
pub mod Each
mod Moved
pub mod Passed
