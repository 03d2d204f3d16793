pub mod Counters
pub mod Lines
pub mod Telling
