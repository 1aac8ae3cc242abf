pub mod Refusal
pub mod TextChecks
