pub mod Grows
pub mod Counts
