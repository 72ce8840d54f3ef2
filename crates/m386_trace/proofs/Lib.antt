pub mod Digits
pub mod Lines
pub mod Printable
pub mod Tasks
pub mod Told
pub mod Writing
