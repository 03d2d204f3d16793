pub mod Form
pub mod Records
pub mod Messages
pub mod Refusal
pub mod Left
pub mod Session
pub mod Progress
