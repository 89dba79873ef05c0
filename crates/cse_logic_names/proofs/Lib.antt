mod MessageLaws
mod PlainTexts
mod OrderLaws
pub mod NameLaws
pub mod Walks
pub mod Sets
pub mod Numbers
pub mod ScopeLaws
