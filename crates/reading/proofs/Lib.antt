pub mod Starred
pub mod ClosersExamples
