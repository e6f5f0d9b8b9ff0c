pub mod Cuts
pub mod Fields
pub mod Writes
pub mod Digits
pub mod Joins
pub mod Plainly
pub mod Good
