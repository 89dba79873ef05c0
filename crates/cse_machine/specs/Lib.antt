pub mod Ready
pub mod Ahead
