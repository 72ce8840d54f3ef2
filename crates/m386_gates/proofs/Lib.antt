pub mod Loops
pub mod Plain
