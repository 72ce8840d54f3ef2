pub mod Book
pub mod Holding
pub mod Laws
pub mod Rules
pub mod Segments
pub mod Tss
pub mod Verdict
