pub mod Keys
pub mod Words
pub mod Drawn
