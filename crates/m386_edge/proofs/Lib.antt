pub mod Edge
pub mod Whole
