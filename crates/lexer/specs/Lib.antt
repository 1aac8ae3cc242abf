pub mod Constants
pub mod Lookup
pub mod Listing
pub mod Coded
