pub mod Steps
pub mod Entries
pub mod Walking
pub mod Formed
pub mod Touched
pub mod Fronts
pub mod Groups
