pub mod Element
pub mod Exec
pub mod Repetition
