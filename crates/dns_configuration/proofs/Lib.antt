pub mod Called
pub mod Hosts
pub mod Listened
pub mod Loaded
pub mod Ports
pub mod Told
pub mod Unread
pub mod Zipped
