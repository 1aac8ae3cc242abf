mod Checks
pub mod Cases
