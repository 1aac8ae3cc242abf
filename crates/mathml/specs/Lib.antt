pub mod Walks
pub mod Call
pub mod Answers
