pub mod Groups
pub mod Sizes
pub mod Histories
pub mod Places
pub mod NoHistory
