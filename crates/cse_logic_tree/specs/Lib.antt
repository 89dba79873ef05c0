pub mod Typed
pub mod Erase
pub mod Tokens
