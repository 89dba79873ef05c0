pub mod CellLine
pub mod Deck
pub mod DeckText
pub mod FirstFault
pub mod Inside
pub mod Loading
pub mod Store
