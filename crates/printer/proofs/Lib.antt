pub mod Walks
pub mod Printing
