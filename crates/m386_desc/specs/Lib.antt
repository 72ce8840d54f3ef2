pub mod Access
pub mod Bytes
pub mod Gate
pub mod Kind
pub mod Offsets
pub mod Selector
