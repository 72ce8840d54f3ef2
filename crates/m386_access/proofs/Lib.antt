pub mod Linked
pub mod Phrases
pub mod Pieces
pub mod Popped
