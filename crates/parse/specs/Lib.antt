pub mod Buffer
pub mod Meet
pub mod Choices
pub mod Columns
pub mod Matrix
pub mod Top
pub mod Call
pub mod Answers
