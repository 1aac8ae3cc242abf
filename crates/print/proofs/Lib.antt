pub mod Calls
pub mod Example
pub mod Theorems
pub mod HalfWords
