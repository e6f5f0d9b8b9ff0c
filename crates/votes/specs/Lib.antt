-- What the contracts of this crate cite.
pub mod Counts
pub mod Exchanges
pub mod Promise
