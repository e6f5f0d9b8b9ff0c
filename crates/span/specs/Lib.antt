-- What the contracts of this crate cite.
pub mod Respond
pub mod Asked
