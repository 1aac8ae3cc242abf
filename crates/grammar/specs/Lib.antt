pub mod Grammar
pub mod Strip
