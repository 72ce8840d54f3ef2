pub mod Forms
pub mod Opcodes
pub mod Operands
pub mod Prefix
pub mod Readings
pub mod Rows
pub mod Spelling
pub mod Sure
