pub mod Derived
pub mod Steps
pub mod Settled
pub mod SettledExamples
