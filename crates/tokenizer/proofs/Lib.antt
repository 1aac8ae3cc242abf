mod Whole
mod Calls
pub mod Under
