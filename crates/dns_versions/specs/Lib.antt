pub mod Each
pub mod Held
pub mod Flush
pub mod Staging
pub mod Checkpoint
