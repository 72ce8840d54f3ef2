pub mod Bytes
pub mod Loads
pub mod Loops
pub mod Order
pub mod Words
