pub mod Steps
pub mod Maps
pub mod Ends
pub mod Laws
