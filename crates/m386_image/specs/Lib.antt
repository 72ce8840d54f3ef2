pub mod Fault
pub mod Format
pub mod Laws
pub mod Memory
