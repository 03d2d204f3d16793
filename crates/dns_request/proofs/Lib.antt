mod Passing
pub mod Counts
