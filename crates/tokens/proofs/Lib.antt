pub mod Cases
pub mod Numbers
pub mod TokenList
pub mod Order
pub mod Tokens
pub mod Accepted
