pub mod Queues
pub mod Answers
pub mod SameAnswer
pub mod Stands
pub mod Theorems
