pub mod Staying
pub mod Crashing
