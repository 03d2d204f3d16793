pub mod Address
pub mod Family
pub mod Prefix
pub mod Printed
