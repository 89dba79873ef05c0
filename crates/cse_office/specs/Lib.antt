pub mod Changes
pub mod Files
pub mod Apart
pub mod Roles
pub mod Readers
