pub mod Allowed
pub mod Answers
pub mod Images
pub mod Runs
pub mod Sent
pub mod Soaks
pub mod Tasks
