mod Ascii
pub mod TextChecks
