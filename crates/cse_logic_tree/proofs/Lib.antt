pub mod Rows
pub mod TokenCounts
