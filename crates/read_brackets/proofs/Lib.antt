pub mod Others
pub mod Room
