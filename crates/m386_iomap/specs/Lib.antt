pub mod Exec
pub mod Map
pub mod Ports
pub mod Transfer
