pub mod Counted
pub mod Ran
pub mod RunDoes
pub mod Telling
pub mod Does
pub mod EditHalts
pub mod Edited
pub mod Program
