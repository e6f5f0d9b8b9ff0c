-- What the contracts of this crate cite.
pub mod Time
pub mod Counting
pub mod Dials
