pub mod Floats
pub mod Ending
