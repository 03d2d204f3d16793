mod Handed
pub mod Recorded
mod Started
mod Taken
