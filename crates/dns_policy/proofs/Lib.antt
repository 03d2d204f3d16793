pub mod Addresses
pub mod Bits
pub mod Decimals
pub mod Prefixes
pub mod PrintedBack
mod Examples
