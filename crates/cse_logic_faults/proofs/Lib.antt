pub mod Lists
pub mod Nodes
pub mod DeckLaws
pub mod Numbers
pub mod Arguments
pub mod LeastLaws
pub mod Blocks
