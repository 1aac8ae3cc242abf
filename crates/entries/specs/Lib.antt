pub mod Prepared
pub mod Open
