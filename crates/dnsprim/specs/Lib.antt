pub mod Asked
pub mod Tasks
