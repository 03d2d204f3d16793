pub mod Counted
mod Headers
mod InTurns
pub mod Known
pub mod Logged
mod Noted
mod Observed
pub mod Recorded
pub mod Said
pub mod Served
pub mod Turned
