pub mod Directives
pub mod Faults
pub mod Instructions
pub mod Judged
pub mod Lines
pub mod Seen
