pub mod Descriptor
pub mod First
pub mod Holds
pub mod Table
