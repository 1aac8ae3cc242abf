pub mod Laid
pub mod Decode
pub mod Size
pub mod Steps
pub mod Opens
pub mod Heads
