-- What the contracts of this crate cite.
pub mod Rehearsals
pub mod Responds
pub mod Promise
