pub mod Begun
pub mod Feeds
pub mod Insides
pub mod Numerals
pub mod Pairs
pub mod Parts
pub mod Pointed
pub mod Tokens
