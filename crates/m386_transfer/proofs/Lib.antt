pub mod Gates
pub mod Plain
pub mod Tried
pub mod Work
