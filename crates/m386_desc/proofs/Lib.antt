pub mod Ends
pub mod Inverse
