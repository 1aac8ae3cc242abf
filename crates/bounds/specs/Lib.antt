pub mod Peak
pub mod Conditions
