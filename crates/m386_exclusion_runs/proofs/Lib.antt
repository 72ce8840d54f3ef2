pub mod Operations
pub mod Ordinary
pub mod Runs
pub mod Steps
pub mod TaskLoads
pub mod Verdicts
