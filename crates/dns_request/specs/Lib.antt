pub mod Codes
pub mod Request
pub mod Shown
