pub mod Digits
pub mod Rows
pub mod Rooms
