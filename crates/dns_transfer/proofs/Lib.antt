mod Lists
pub mod Since
mod Sequences
mod Soa
mod Told
mod Examples
mod Exchanges
mod Filled
mod Progress
