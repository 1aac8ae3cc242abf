pub mod Kinds
pub mod Bytes
pub mod Lexeme
pub mod Table
pub mod Refusals
