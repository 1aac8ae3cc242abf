pub mod Keys
pub mod Same
pub mod Words
pub mod Unpacks
