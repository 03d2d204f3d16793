pub mod Connecting
pub mod Fetch
pub mod FetchFaults
pub mod TakingIn
