pub mod Line
pub mod Report
pub mod Soak
pub mod Tasks
pub mod Told
pub mod Words
