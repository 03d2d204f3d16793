pub mod Change
pub mod Touched
pub mod Entry
pub mod Laws
pub mod Version
pub mod Applied
pub mod Group
