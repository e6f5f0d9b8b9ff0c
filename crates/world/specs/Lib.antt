-- What the contracts of this crate cite.
pub mod Step
pub mod Promise
