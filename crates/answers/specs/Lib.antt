pub mod Answers
pub mod Hears
