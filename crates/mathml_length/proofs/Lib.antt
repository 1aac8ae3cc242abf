pub mod Widths
pub mod Costs
pub mod Matrices
pub mod Prices
pub mod Closers
pub mod Paid
pub mod Theorems
