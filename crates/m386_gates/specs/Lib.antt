pub mod Calls
pub mod Copies
pub mod Exec
pub mod Far
pub mod Near
pub mod Returns
pub mod Transfer
