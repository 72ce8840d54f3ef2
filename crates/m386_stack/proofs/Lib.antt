pub mod Images
pub mod Loops
pub mod Plain
pub mod Pushed
