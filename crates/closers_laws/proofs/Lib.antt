pub mod Replay
pub mod Nested
pub mod OneCell
