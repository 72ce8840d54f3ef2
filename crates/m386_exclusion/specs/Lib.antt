pub mod Change
pub mod Exclusion
pub mod Held
pub mod Histories
pub mod Invariant
pub mod Table
pub mod World
