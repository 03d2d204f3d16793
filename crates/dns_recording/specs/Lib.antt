pub mod Recorder
pub mod Script
