pub mod Print
pub mod Lines
