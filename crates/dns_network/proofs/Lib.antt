pub mod Framed
pub mod Pushed
mod Gone
mod Leads
pub mod Left
pub mod Noted
mod Parts
mod ReadAhead
pub mod Running
pub mod Steps
mod Taken
mod Used
mod Visited
