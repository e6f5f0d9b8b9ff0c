pub mod Heard
mod Whole
