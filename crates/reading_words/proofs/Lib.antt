pub mod Kit
pub mod Sorts
pub mod Attempts
pub mod Records
pub mod Plain
pub mod Steps
pub mod Matrices
