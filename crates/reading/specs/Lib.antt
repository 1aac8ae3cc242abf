pub mod Stop
pub mod Entries
pub mod Reading
