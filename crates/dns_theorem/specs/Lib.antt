pub mod Versions
pub mod Copies
pub mod Headline
pub mod Messages
pub mod Lives
pub mod Followed
