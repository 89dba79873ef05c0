pub mod Clashes
pub mod Whole
