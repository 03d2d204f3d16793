pub mod ResourceRecord
pub mod Prerequisites
pub mod Listed
pub mod Prescan
pub mod Ranges
pub mod Effect
pub mod Touched
pub mod Verdict
