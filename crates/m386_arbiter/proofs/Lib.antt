pub mod Totals
pub mod Steps
pub mod Turns
pub mod Gathering
pub mod Closing
pub mod Origins
pub mod Sent
