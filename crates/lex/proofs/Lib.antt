pub mod Answers
mod Single
pub mod Theorems
