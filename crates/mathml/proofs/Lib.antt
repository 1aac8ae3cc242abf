pub mod Rows
pub mod Passing
pub mod Placing
pub mod Writing
pub mod Items
pub mod Marks
pub mod Calls
pub mod Theorems
