pub mod Forms
pub mod NumberBytes
pub mod Frames
pub mod Readings
pub mod Once
pub mod StringParts
pub mod Joined
