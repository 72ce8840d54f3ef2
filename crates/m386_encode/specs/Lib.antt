pub mod Candidates
pub mod Order
pub mod RoundTrip
pub mod Shortest
pub mod Wide
pub mod Renumbered
