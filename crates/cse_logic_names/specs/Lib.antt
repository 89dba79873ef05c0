pub mod Fault
pub mod MessageFile
pub mod Texts
pub mod OrderFile
pub mod Scope
pub mod Uses
pub mod WellTyped
pub mod Walk
