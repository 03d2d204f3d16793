pub mod CallList
pub mod DeviceCalls
pub mod DeviceFaults
pub mod MemoryDevices
pub mod Stores
