pub mod All
pub mod Exec
pub mod Flags
pub mod Frame
pub mod Names
pub mod Single
pub mod Stack
