pub mod Tree
pub mod Words
pub mod Decode
pub mod WellFormed
pub mod Laid
pub mod Visits
pub mod Walk
