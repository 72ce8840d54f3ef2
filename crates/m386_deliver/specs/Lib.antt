pub mod Deliver
pub mod Exec
pub mod Gate
pub mod Iret
pub mod Second
