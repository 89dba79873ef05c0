pub mod Right
pub mod Complete
pub mod Subscripts
pub mod Expressions
pub mod Numbers
pub mod Actions
pub mod Arguments
