pub mod ByKind
pub mod Runs
pub mod Parts
pub mod Openings
pub mod Closings
pub mod Belows
pub mod Refusals
