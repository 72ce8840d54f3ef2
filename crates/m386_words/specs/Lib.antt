pub mod Expressions
pub mod Mnemonics
pub mod Operands
pub mod Options
pub mod Seen
pub mod Text
pub mod Tokens
pub mod Words
