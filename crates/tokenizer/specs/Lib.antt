pub mod Call
pub mod Waiting
