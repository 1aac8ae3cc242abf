pub mod Application
pub mod Element
