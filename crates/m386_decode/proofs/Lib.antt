pub mod Concluding
pub mod Exact
pub mod Slices
pub mod Some
pub mod Wanting
