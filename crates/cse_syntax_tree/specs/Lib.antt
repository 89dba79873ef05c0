pub mod Leaf
pub mod Word
pub mod Tree
pub mod Grammar
pub mod First
