pub mod Alike
pub mod Escaping
pub mod Characters
pub mod Columns
