mod Heads
mod Names
mod Octets
mod Roots
