pub mod Executed
pub mod Gate
pub mod Place
pub mod Return
pub mod Tried
