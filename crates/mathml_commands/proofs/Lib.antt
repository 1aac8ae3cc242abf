pub mod Compared
pub mod Keyed
pub mod Pairs
pub mod Spellings
pub mod Boundaries
