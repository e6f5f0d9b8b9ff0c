mod Changes
mod Keeps
pub mod Worlds
