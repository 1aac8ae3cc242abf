pub mod Meet
pub mod Matrix
pub mod Top
pub mod Call
