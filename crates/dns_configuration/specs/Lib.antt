pub mod Calls
pub mod Faults
pub mod Files
pub mod Known
pub mod Named
pub mod Settings
