pub mod Depth
pub mod Takes
pub mod Tests
