pub mod Decoding
pub mod Slices
