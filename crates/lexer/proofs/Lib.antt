mod Sorted
mod Flat
mod Arrays
mod Lookup
mod RuleCases
mod ByteKinds
mod FoundWords
mod Adding
pub mod Stops
mod Passes
pub mod Places
mod Answers
pub mod Into
pub mod Theorems
