pub mod Spellings
pub mod Order
pub mod Longest
pub mod Rules
