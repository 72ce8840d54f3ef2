pub mod Chosen
pub mod Each
pub mod Fixed
pub mod Judged
pub mod Listed
pub mod Matched
pub mod Shaped
pub mod Tables
