pub mod Adjust
pub mod Exec
pub mod Found
pub mod Names
pub mod Pointers
pub mod Registers
pub mod Zero
