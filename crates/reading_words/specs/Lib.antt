pub mod Entry
pub mod Meet
