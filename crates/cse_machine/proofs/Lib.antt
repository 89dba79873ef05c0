pub mod Loop
pub mod Outcomes
pub mod Turning
pub mod Resuming
pub mod Starting
pub mod Following
pub mod AheadLaws
