pub mod Takes
pub mod Columns
pub mod Room
pub mod Fuel
pub mod WellFormed
pub mod Memory
pub mod Theorems
pub mod PeakExamples
