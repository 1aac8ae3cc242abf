-- The stop of a reader, the Rust's Option<Token>: nothing of its own, or Sep. (No reader passes a CloseBracket.)
pub data Stop : Type 0 where
  none sep : Stop
