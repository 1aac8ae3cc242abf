pub mod Matching
mod Listed
mod Clearing
mod Words
mod Filling
pub mod Answers
pub mod Recorded
pub mod Example
pub mod Accepted
