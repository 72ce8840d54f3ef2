pub mod Fields
pub mod Orders
