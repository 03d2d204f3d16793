pub mod Commands
pub mod Keeps
pub mod Lines
pub mod Crashes
pub mod Made
pub mod Runs
pub mod Scripts
