pub mod Below
pub mod Rule
pub mod Seats
pub mod Dealt
pub mod Ends
