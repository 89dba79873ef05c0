pub mod Text
pub mod Sections
pub mod Number
